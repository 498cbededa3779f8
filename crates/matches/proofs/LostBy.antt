-- Laws of which destinations match, case by case and one after another, as the proofs of the functions need them.
use Rattle.std.specs.Prelude.{Option, Some, None}
use Prim.Native.Nat.{ℕ, ◌+◌, ◌-◌, ◌<◌, ◌≤◌}
use mathlib.Core.Path.{◌≡◌, sym, ap, ◌∙◌}
use mathlib.Core.Bool.{Bool, true, false, not, ◌&&◌}
use mathlib.Core.List.{List}
use lib.Dec.{eqb}
use Rattle.layout.specs.declared.address.Address.{Address}
use Rattle.layout.specs.declared.row.Row.{Row}
use Rattle.layout.specs.Layout.{row_at}
use Rattle.table.specs.Table.{find_row}
use Rattle.table.proofs.Cases.{row_at_lem, row_none}
use Rattle.element.specs.declared.LostDestination.{LostDestination}
use Rattle.element.specs.Entries.{each, lost_at}
use Rattle.layout.specs.Row.{is_through}
use Rattle.rules.specs.Errors.{is_lost_by, matches}
use Rattle.rules.specs.Lists.{any}
use Rattle.rules.proofs.AnyOf.{any_found, any_more, any_ended}

pub lost_is : (c : ℕ) (hop : Address) (r : Row) (b : Bool) → b ≡ is_through c hop r → (b && eqb r.known 1) ≡ is_lost_by c hop r
unfolding is_lost_by
lost_is c hop r b e = ap (λ (x : Bool). x && eqb r.known 1) e

module _ (t : List ℕ) (c : ℕ) (hop : Address) (m : LostDestination) (f : Option ℕ) (fe : f ≡ find_row t m.address) where
  pub match_absent : f ≡ None → false ≡ matches t c hop m
  unfolding matches
  match_absent e = rw (row_none t m.address f fe e)

  pub match_found : (i : ℕ) → f ≡ Some i → (r : Row) → r ≡ row_at t i → (b : Bool) → b ≡ is_lost_by c hop r → b ≡ matches t c hop m
  unfolding matches
  match_found i e r re b be = rw (row_at_lem t m.address f fe i e r re) be

-- For a loop over the destinations: g says whether any of them is a match.
module _ (t : List ℕ) (c : ℕ) (hop : Address) (part : List ℕ) (n i : ℕ) (g : Bool) where
  module _ (l : i < n) (m : LostDestination) (me : m ≡ lost_at part i) (b : Bool) (be : b ≡ matches t c hop m) where
    pub this_matches : b ≡ true → any (matches t c hop) (each (lost_at part) i (n - i)) ≡ g → false ≡ not g
    this_matches e h = ap not (any_found (matches t c hop) (lost_at part) n i g l m me (sym be ∙ e) h)

    pub this_does_not : b ≡ false → any (matches t c hop) (each (lost_at part) i (n - i)) ≡ g
        → any (matches t c hop) (each (lost_at part) (i + 1) (n - (i + 1))) ≡ g
    this_does_not e = any_more (matches t c hop) (lost_at part) n i g l m me (sym be ∙ e)

  pub none_matches : n ≤ i → any (matches t c hop) (each (lost_at part) i (n - i)) ≡ g → true ≡ not g
  none_matches l h = ap not (any_ended (matches t c hop) (lost_at part) n i g l h)
