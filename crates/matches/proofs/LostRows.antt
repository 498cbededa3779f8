-- Laws of what a RERR does to the rows of its matches, case by case, as the proofs of the functions need them.
use Rattle.std.specs.Prelude.{Option, None, Some}
use Prim.Native.Nat.{ℕ, ◌+◌, ◌-◌, ◌<◌, ◌≤◌}
use mathlib.Core.Path.{◌≡◌, sym, ap, ◌∙◌}
use mathlib.Core.Bool.{Bool, true, false, not, cond}
use mathlib.Core.List.{List}
use native.Mathlib.Nat.{sub-zero}
use borrow.Author.Tests.{not-true, not-false}
use Rattle.counters.specs.declared.SequenceNumber.{SequenceNumber}
use Rattle.counters.specs.Numbers.{newer}
use Rattle.layout.specs.declared.address.Address.{Address}
use Rattle.layout.specs.declared.row.Row.{Row}
use Rattle.layout.specs.Address.{same}
use Rattle.layout.specs.Row.{invalidated, raised}
use Rattle.element.specs.declared.LostDestination.{LostDestination}
use Rattle.element.specs.Entries.{each, lost_at}
use Rattle.element.proofs.Scans.{each_next, each_end}
use Rattle.rules.specs.Errors.{is_lost_by, number_beside, is_match, erred_with, erred}

-- ---- the number next to a destination: g is the result for all entries

module _ (part : List ℕ) (d : Address) (n : ℕ) where
  abbrev beside_from : ℕ → Option SequenceNumber
  beside_from i = number_beside d (each (lost_at part) i (n - i))

  pub beside_start : number_beside d (each (lost_at part) 0 (n - 0)) ≡ number_beside d (each (lost_at part) 0 n)
  beside_start = rw (sub-zero n)

  module _ (i : ℕ) (g : Option SequenceNumber) where
    module _ (l : i < n) (m : LostDestination) (me : m ≡ lost_at part i) where
      beside_next : cond (same m.address d) (Some m.number) (beside_from (i + 1)) ≡ beside_from i
      unfolding number_beside
      beside_next = rw (me, each_next (lost_at part) i n l)

      module _ (b : Bool) (be : b ≡ same m.address d) where
        pub beside_found : b ≡ true → beside_from i ≡ g → Some m.number ≡ g
        beside_found e h = (rw (← be, e) at beside_next) ∙ h

        pub beside_more : b ≡ false → beside_from i ≡ g → beside_from (i + 1) ≡ g
        beside_more e h = (rw (← be, e) at beside_next) ∙ h

    pub beside_ended : n ≤ i → beside_from i ≡ g → None ≡ g
    unfolding number_beside
    beside_ended l h = ap (number_beside d) (sym (each_end (lost_at part) i n l)) ∙ h

-- ---- a row that is lost

module _ (number : SequenceNumber) (r lost : Row) (le : lost ≡ invalidated r) (b : Bool) (be : b ≡ newer number r.number) where
  pub number_stays : not b ≡ true → lost ≡ erred_with (Some number) r
  unfolding erred_with
  number_stays e = rw (← be, not-true b e) le

  pub number_taken : not b ≡ false → (s : Row) → s ≡ raised number lost → s ≡ erred_with (Some number) r
  unfolding erred_with
  number_taken e s se = rw (← be, not-false b e, ← le) se

-- ---- a row of the table: what the RERR makes of it, or None if it stays

module _ (c : ℕ) (hop : Address) (named : List LostDestination) (r : Row) (b : Bool) (be : b ≡ is_lost_by c hop r) where
  abbrev after : Option Row
  after = cond (is_match c hop named r) (Some (erred named r)) None

  pub elsewhere_stays : not b ≡ true → None ≡ after
  unfolding is_match
  elsewhere_stays stays = rw (← be, not-true b stays)

  module _ (is_lost : not b ≡ false) (x : Option SequenceNumber) (xe : x ≡ number_beside r.destination named) where
    pub unnamed_stays : x ≡ None → None ≡ after
    unfolding is_match
    unnamed_stays e = rw (← be, not-false b is_lost, ← xe, e)

    pub match_lost : (number : SequenceNumber) → x ≡ Some number → (s : Row) → s ≡ erred_with (Some number) r → Some s ≡ after
    unfolding is_match erred
    match_lost number e s se = rw (← be, not-false b is_lost, ← xe, e, se)
