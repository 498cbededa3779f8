-- Laws of which destinations are kept, case by case, as the proofs of the functions need them.
use Rattle.std.specs.Prelude.{Option, None, Some, filter_map}
use Rattle.std.specs.List.{cons_option}
use Prim.Native.Nat.{ℕ, suc, ◌/◌, ◌≤◌}
use mathlib.Core.Path.{◌≡◌, refl, ap, ap₂, ◌∙◌}
use mathlib.Core.Bool.{Bool, true, false, cond}
use mathlib.Core.List.{List, [], ◌∷◌, ◌++◌}
use lib.ListN.{length}
use native.Mathlib.Omega.{arith}
use Rattle.counters.specs.declared.SequenceNumber.{SequenceNumber}
use Rattle.layout.specs.declared.row.Row.{Row}
use Rattle.layout.specs.Address.{same}
use Rattle.table.specs.Table.{own}
use Rattle.element.specs.declared.PathInfo.{PathInfo}
use Rattle.element.specs.declared.Target.{Target}
use Rattle.element.specs.Entries.{All, target_at, targets_in}
use Rattle.element.specs.Lists.{all_ones}
use Rattle.element.proofs.Scans.{each_length}
use Rattle.rules.specs.declared.Arrival.{Arrival}
use Rattle.element.specs.Flags.{has_rf, with_do, reply_wanted}
use Rattle.rules.specs.Destinations.{Answered, for_oneself, for_all_ones, answered, all_answered}
use Rattle.rules.proofs.Branches.{cond_cases}
use Rattle.answering.specs.Answering.{answering_row}
use Rattle.onward.specs.Kept.{kept_by, kept_of, kept_among}
use Rattle.answering.proofs.AnsweringRows.{another_by, answering_is}

-- ---- which destinations are kept

-- A kept destination has the address that it had.
pub kept_address : (t : List ℕ) (c : ℕ) (q : Target) → All (λ (k : Target). k.address ≡ q.address) (cons_option (kept_of t c q) [])
unfolding kept_of All with_do
kept_address t c q =
    cond_cases Same (same q.address (own t)) (λ _. tt)
    (λ _. cond_cases Same (same q.address all_ones) (λ _. (refl, tt)) (λ _. by_answer (answering_row t c q)))
  where
    Same : Option Target → Type 0
    Same k = All (λ (x : Target). x.address ≡ q.address) (cons_option k [])

    by_answer : (o : Option Row) → Same (kept_by q o)
    by_answer None = (refl, tt)
    by_answer (Some r) = cond_cases Same (has_rf q) (λ _. (refl, tt)) (λ _. tt)

fewer : (f : Target → Option Target) (l : List Target) → length (filter_map f l) ≤ length l
fewer f [] = omega arith
fewer f (x ∷ l) = by (f x) (fewer f l)
  where
    by : (o : Option Target) → length (filter_map f l) ≤ length l → length (cons_option o (filter_map f l)) ≤ suc (length l)
    by None few = omega arith
    by (Some y) few = omega arith

-- No more destinations are kept than there are.
pub kept_few : (t : List ℕ) (c : ℕ) (part : List ℕ) → length (kept_among t c part) ≤ length part / 11
unfolding kept_among
kept_few t c part = omega (arith, fewer (kept_of t c) (targets_in part), each_length (target_at part) 0 (length part / 11))

-- ---- the kept destinations are those of `all_answered`

module _ (t : List ℕ) (a : Arrival) (p : PathInfo) where
  abbrev kept_branch : Bool → Bool → SequenceNumber → Target → Answered
  kept_branch b c n q = cond b (for_oneself t a p n q) (cond c (for_all_ones t a p n q) (another_by t a p n q (answering_row t a.clock q)))

  abbrev listed : Option Target → List Target
  listed k = cons_option k []

  branch_kept : (b c : Bool) (n : SequenceNumber) (q : Target)
      → (kept_branch b c n q).kept ≡ listed (cond b None (cond c (Some q) (kept_by q (answering_row t a.clock q))))
  unfolding for_oneself for_all_ones
  branch_kept true c n q = refl
  branch_kept false true n q = cond_cases (λ (x : Answered). x.kept ≡ q ∷ []) (reply_wanted p) (λ _. refl) (λ _. refl)
  branch_kept false false n q = another (answering_row t a.clock q)
    where
      by : (b : Bool) → cond b (with_do q ∷ []) [] ≡ listed (cond b (Some (with_do q)) None)
      by true = refl
      by false = refl

      another : (o : Option Row) → (another_by t a p n q o).kept ≡ listed (kept_by q o)
      another None = refl
      another (Some r) = by (has_rf q)

  kept_is : (n : SequenceNumber) (q : Target) → (answered t a p n q).kept ≡ listed (kept_of t a.clock q)
  unfolding answered kept_of
  kept_is n q =
      ap (λ (x : Answered). (cond (same q.address (own t)) (for_oneself t a p n q) (cond (same q.address all_ones) (for_all_ones t a p n q) x)).kept)
      (answering_is t a p n q)
      ∙ branch_kept (same q.address (own t)) (same q.address all_ones) n q

  -- The kept part of `all_answered` is what is kept of each destination.
  all_kept_are : (n : SequenceNumber) (targets : List Target) → (all_answered t a p n targets).kept ≡ filter_map (kept_of t a.clock) targets
  unfolding all_answered
  all_kept_are n [] = refl
  all_kept_are n (q ∷ targets) =
      ap₂ ◌++◌ (kept_is n q) (all_kept_are (answered t a p n q).number targets) ∙ joined (kept_of t a.clock q)
    where
      joined : (k : Option Target) → listed k ++ filter_map (kept_of t a.clock) targets ≡ cons_option k (filter_map (kept_of t a.clock) targets)
      joined None = refl
      joined (Some x) = refl

  pub answered_contains : (n : SequenceNumber) (part : List ℕ) → (all_answered t a p n (targets_in part)).kept ≡ kept_among t a.clock part
  unfolding kept_among
  answered_contains n part = all_kept_are n (targets_in part)
