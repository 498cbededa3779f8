-- A break and a received RERR: every row stays held, and the octets stay a table.
use Rattle.std.specs.Prelude.{Option, None, Some, is_some}
use Prim.Native.Nat.{ℕ, ◌^◌, ◌<◌}
use mathlib.Core.Path.{◌≡◌, refl, sym, ap, subst, ◌∙◌}
use mathlib.Core.Bool.{Bool, true, false, and-eq-true_iff}
use mathlib.Core.List.{List, [], ◌∷◌}
use Rattle.std.proofs.lemmas.Option.{none-some, same_Some}
use lib.Dec.{eqb, ltb}
use native.Mathlib.Omega.{arith}
use borrow.Author.Tests.{eqb-true}
use Rattle.octets.proofs.Laws.{FitFields}
use Rattle.counters.specs.declared.SequenceNumber.{SequenceNumber}
use Rattle.counters.specs.Numbers.{stepped, next_number, newer}
use Rattle.layout.specs.declared.address.Address.{Address}
use Rattle.layout.specs.declared.row.Row.{Row}
use Rattle.layout.specs.Address.{same}
use Rattle.layout.specs.Row.{active, is_held, invalidated, raised, is_through}
use Rattle.table.specs.Table.{own, change_where}
use Rattle.table.proofs.Changes.{KeepsRows, change_length, change_head, change_octets, change_legal}
use Rattle.layout.proofs.HeadAndRows.{FitRow}
use Rattle.layout.proofs.HeldRows.{Held, held_says, held_is, invalid_fits, raised_fits, invalid_held, raised_held}
use Rattle.element.specs.declared.LostDestination.{LostDestination}
use Rattle.element.specs.Entries.{All}
use Rattle.element.proofs.ListParts.{FitsLost}
use Rattle.rules.specs.Errors.{is_lost_by, number_beside, is_match, erred_with, erred, broken}
use Rattle.rules.proofs.Branches.{cond_cases}
use Rattle.rules.proofs.Tables.{Whole, Keeps}

-- States that r' is the row r, or r invalidated, or r invalidated with another number and metric 4,294,967,295 where its number
-- is known.
data Lost (r r' : Row) : Type 0 where
  unchanged : r' ≡ r → Lost r r'
  invalid : r' ≡ invalidated r → Lost r r'
  higher : (n : SequenceNumber) → n.0 < 256 ^ 4 → eqb r.known 1 ≡ true → r' ≡ raised n (invalidated r) → Lost r r'

lost_destination : (r r' : Row) → Lost r r' → r'.destination ≡ r.destination
unfolding invalidated raised
lost_destination r r' (unchanged e) = ap (λ (q : Row). q.destination) e
lost_destination r r' (invalid e) = ap (λ (q : Row). q.destination) e
lost_destination r r' (higher n l k e) = ap (λ (q : Row). q.destination) e

lost_fits : (r r' : Row) → Lost r r' → FitRow r → FitRow r'
lost_fits r r' (unchanged e) f = subst FitRow (sym e) f
lost_fits r r' (invalid e) f = subst FitRow (sym e) (invalid_fits r f)
lost_fits r r' (higher n l k e) f = subst FitRow (sym e) (raised_fits (invalidated r) n l (invalid_fits r f))

lost_legal : (a : Address) (r r' : Row) → Lost r r' → is_held a r ≡ true → is_held a r' ≡ true
unfolding invalidated
lost_legal a r r' (unchanged e) h = subst (λ (q : Row). is_held a q ≡ true) (sym e) h
lost_legal a r r' (invalid e) h =
    subst (λ (q : Row). is_held a q ≡ true) (sym e) (held_is a (invalidated r) (invalid_held r a (held_says a r h)))
lost_legal a r r' (higher n l k e) h =
    let down : Held a (invalidated r) = invalid_held r a (held_says a r h) in
    subst (λ (q : Row). is_held a q ≡ true) (sym e) (held_is a (raised n (invalidated r)) (raised_held (invalidated r) a down n k))

lost_held : (r r' : Row) → Lost r r' → eqb r.status 0 ≡ false → eqb r'.status 0 ≡ false
unfolding invalidated raised
lost_held r r' (unchanged e) h = ap (λ (q : Row). eqb q.status 0) e ∙ h
lost_held r r' (invalid e) h = ap (λ (q : Row). eqb q.status 0) e
lost_held r r' (higher n l k e) h = ap (λ (q : Row). eqb q.status 0) e

-- ---- a change of active rows that invalidates some of them

active_held : (c : ℕ) (r : Row) → active c r ≡ true → eqb r.status 0 ≡ false
unfolding active
active_held c r e = ap (λ k. eqb k 0) (eqb-true r.status 1 ((and-eq-true_iff (eqb r.status 1) (ltb c r.expiry)).0 e).0)

module _ (p : Row → Bool) (f : Row → Row) (c : ℕ) (acts : (r : Row) → p r ≡ true → active c r ≡ true) (lost : (r : Row) → p r ≡ true → Lost r (f r)) where
  lost_keeps_rows : KeepsRows p f
  lost_keeps_rows =
      record {
        was_held = λ r e. active_held c r (acts r e);
        held = λ r e. lost_held r (f r) (lost r e) (active_held c r (acts r e));
        destination = λ r e. lost_destination r (f r) (lost r e);
        fits = λ r e. lost_fits r (f r) (lost r e);
      }

  lost_keeps : (t : List ℕ) → Whole t → Keeps t (change_where p f t)
  lost_keeps t w =
      record {
        whole = record {
          octets = change_octets p f t w.octets;
          long = rw change_length w.long;
          legal = change_legal p f lost_keeps_rows t w.octets w.legal (λ r e. lost_legal (own t) r (f r) (lost r e));
        };
        head = change_head p f t;
        length = change_length p f t;
      }

-- ---- a break

pub next_fits : (n : SequenceNumber) → (next_number n).0 < 256 ^ 4
unfolding stepped
next_fits n = omega arith

broken_loses : (r : Row) → Lost r (broken r)
unfolding broken
broken_loses r = cond_cases (Lost r) (eqb r.known 1) (λ k. higher _ (next_fits r.number) k refl) (λ _. invalid refl)

pub through_acts : (c : ℕ) (hop : Address) (r : Row) → is_through c hop r ≡ true → active c r ≡ true
unfolding is_through
through_acts c hop r e = ((and-eq-true_iff (active c r) (same r.next hop)).0 e).0

-- A break of any set of active rows.
module _ (test : Row → Bool) (c : ℕ) (acts : (r : Row) → test r ≡ true → active c r ≡ true) where
  pub break_keeps_rows : KeepsRows test broken
  break_keeps_rows = lost_keeps_rows test broken c acts (λ r _. broken_loses r)

  pub break_keeps : (t : List ℕ) → Whole t → Keeps t (change_where test broken t)
  break_keeps = lost_keeps test broken c acts (λ r _. broken_loses r)

-- ---- a received RERR, whose entries fit their octets

beside_fits : (d : Address) (named : List LostDestination) → All FitsLost named → (n : SequenceNumber) → number_beside d named ≡ Some n → n.0 < 256 ^ 4
unfolding number_beside All FitFields
beside_fits d [] f n = λ e. absurd (none-some n e)
beside_fits d (m ∷ named) f n =
    cond_cases (λ (o : Option SequenceNumber). o ≡ Some n → n.0 < 256 ^ 4) (same m.address d)
    (λ _ e. subst (λ (k : SequenceNumber). k.0 < 256 ^ 4) (same_Some m.number n e) (search f.0))
    (λ _. beside_fits d named f.1 n)

module _ (c : ℕ) (transmitter : Address) (named : List LostDestination) (fit : All FitsLost named) where
  erred_with_loses : (r : Row) → eqb r.known 1 ≡ true → (o : Option SequenceNumber) → number_beside r.destination named ≡ o → Lost r (erred_with o r)
  unfolding erred_with
  erred_with_loses r k None e = unchanged refl
  erred_with_loses r k (Some n) e =
      cond_cases (Lost r) (newer n r.number) (λ _. higher n (beside_fits r.destination named fit n e) k refl) (λ _. invalid refl)

  -- The row of a match is active, and its number is known.
  match_is : (r : Row) → is_match c transmitter named r ≡ true → (active c r ≡ true) × (eqb r.known 1 ≡ true)
  unfolding is_match is_lost_by
  match_is r e =
      let lost = ((and-eq-true_iff (is_lost_by c transmitter r) (is_some (number_beside r.destination named))).0 e).0 in
      let both = (and-eq-true_iff (is_through c transmitter r) (eqb r.known 1)).0 lost in
      (through_acts c transmitter r both.0, both.1)

  erred_loses : (r : Row) → is_match c transmitter named r ≡ true → Lost r (erred named r)
  unfolding erred
  erred_loses r e = erred_with_loses r (match_is r e).1 (number_beside r.destination named) refl

  pub error_keeps_rows : KeepsRows (is_match c transmitter named) (erred named)
  error_keeps_rows = lost_keeps_rows (is_match c transmitter named) (erred named) c (λ r e. (match_is r e).0) erred_loses

  pub error_keeps : (t : List ℕ) → Whole t → Keeps t (change_where (is_match c transmitter named) (erred named) t)
  error_keeps = lost_keeps (is_match c transmitter named) (erred named) c (λ r e. (match_is r e).0) erred_loses
