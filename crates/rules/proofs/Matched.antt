-- A received RERR changes the row of each match, by the number next to its destination. One definition says which destinations
-- match (`matches`), and others say which rows are changed and how (`is_match`, `erred`). If no destination stands twice, they
-- agree.
use Rattle.std.specs.Prelude.{Option, Some}
use mathlib.Core.Path.{◌≡◌, refl, sym, ap, ◌∙◌}
use mathlib.Core.Bool.{false, and-true}
use mathlib.Core.List.{List, [], ◌∷◌}
use Prim.Native.Nat.{ℕ}
use borrow.Author.Tests.{eq-eqb, ne_eqb, eqb-false}
use Rattle.octets.proofs.Tests.{neither}
use Rattle.counters.specs.declared.SequenceNumber.{SequenceNumber}
use Rattle.layout.specs.declared.address.Address.{Address}
use Rattle.layout.specs.declared.row.Row.{Row}
use Rattle.layout.specs.Address.{same}
use Rattle.table.specs.Table.{row_for}
use Rattle.table.proofs.Lookup.{row_destination}
use Rattle.element.specs.declared.LostDestination.{LostDestination}
use Rattle.element.specs.Entries.{All}
use Rattle.element.specs.Lists.{contains, has_duplicate}
use Rattle.rules.specs.Errors.{is_lost_by, matches, number_beside, is_match, erred_with, erred}
use Rattle.rules.specs.Receive.{lost_addresses}
use Rattle.rules.proofs.Alls.{all_implies, apart}

-- An entry m before the others does not change the number next to another destination.
module _ (m : LostDestination) (named : List LostDestination) where
  beside_others : (l : List LostDestination) → All (λ (k : LostDestination). same k.address m.address ≡ false) l
      → All (λ (k : LostDestination). number_beside k.address named ≡ Some k.number) l
      → All (λ (k : LostDestination). number_beside k.address (m ∷ named) ≡ Some k.number) l
  unfolding All number_beside
  beside_others [] others rest = tt
  beside_others (k ∷ l) others rest = (
    rw (ne_eqb m.address.0 k.address.0 (λ e. eqb-false k.address.0 m.address.0 others.0 (sym e))) rest.0,
    beside_others l others.1 rest.1,
  )

beside_each : (named : List LostDestination) → has_duplicate (lost_addresses named) ≡ false
    → All (λ (m : LostDestination). number_beside m.address named ≡ Some m.number) named
unfolding All number_beside has_duplicate
beside_each [] e = tt
beside_each (m ∷ named) e =
    let once = neither (contains (lost_addresses named) m.address) (has_duplicate (lost_addresses named)) e in
    let rest = beside_each named once.1 in
    (rw (eq-eqb m.address.0 m.address.0 refl), beside_others m named named (apart (λ (k : LostDestination). k.address) m.address named once.0) rest)

-- The row r of a destination that the RERR names.
module _ (t : List ℕ) (c : ℕ) (transmitter : Address) (named : List LostDestination) (m : LostDestination) (b : number_beside m.address named ≡ Some m.number)
    (r : Row) (f : row_for t m.address ≡ Some r) where
  beside : number_beside r.destination named ≡ Some m.number
  beside = ap (λ (d : Address). number_beside d named) (row_destination t m.address r f) ∙ b

  tested : is_match c transmitter named r ≡ matches t c transmitter m
  unfolding is_match matches
  tested = rw (beside, f) (and-true (is_lost_by c transmitter r))

  changed : erred named r ≡ erred_with (Some m.number) r
  unfolding erred
  changed = ap (λ (o : Option SequenceNumber). erred_with o r) beside

-- States that a destination which the RERR names is a match exactly if its row is changed, and that its row is changed by the
-- number next to the destination.
pub record AsMatched (t : List ℕ) (c : ℕ) (transmitter : Address) (named : List LostDestination) (m : LostDestination) : Type 0 where
  pub test : (r : Row) → row_for t m.address ≡ Some r → is_match c transmitter named r ≡ matches t c transmitter m
  pub change : (r : Row) → row_for t m.address ≡ Some r → erred named r ≡ erred_with (Some m.number) r

pub matched_alike : (t : List ℕ) (c : ℕ) (transmitter : Address) (named : List LostDestination) → has_duplicate (lost_addresses named) ≡ false
    → All (AsMatched t c transmitter named) named
matched_alike t c transmitter named e =
    all_implies (λ (m : LostDestination). number_beside m.address named ≡ Some m.number) (AsMatched t c transmitter named)
    (λ m b. record { test = tested t c transmitter named m b; change = changed t c transmitter named m b }) named (beside_each named e)
