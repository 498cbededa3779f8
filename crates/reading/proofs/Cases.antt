-- Laws of the definitions in `specs/`, case by case. Each law serves a `return` of the code: `search` applies it to the results
-- of the calls before the `return`.
use Prim.Native.Nat.{ℕ, ◌+◌, ◌-◌, ◌<◌, ◌≤◌, min}
use mathlib.Core.Path.{◌≡◌, refl, sym, ap, ◌∙◌}
use mathlib.Core.Bool.{Bool, true, false, ◌||◌, not, cond}
use mathlib.Core.List.{List, [], ◌∷◌, ◌++◌}
use lib.Dec.{eqb}
use lib.ListN.{length, get_or, take, drop, length-drop}
use lib.Seq.{take_all}
use native.Mathlib.Omega.{arith}
use native.Mathlib.Nat.{add-zero}
use borrow.Author.Tests.{eqb-true, not-false}
use Rattle.std.specs.Prelude.{Result, Ok, Err}
use Rattle.std.specs.Result.{MatchResult, result_unwrap_or}
use Rattle.std.proofs.lemmas.List.{drop_min}
use Rattle.octets.specs.LittleEndian.{number_at, fields_at}
use Rattle.refusals.specs.declared.Refusal.TheVariants.{UnknownId, BadCount}
use Rattle.element.specs.declared.Kind.{Kind}
use Rattle.element.specs.declared.Kind.TheVariants.{Rann, Rreq, Rrep, Rerr}
use Rattle.element.specs.declared.PathInfo.{PathInfo}
use Rattle.reading.specs.declared.Fields.{Fields}
use Rattle.reading.specs.declared.Fields.TheVariants.{Announcement}
use Rattle.element.specs.Layout.{known, kind_with, fits, length_with, count_ok}
use Rattle.element.specs.Octets.{kind_in, count_as, wrong_length, other_id, misfit, path_from, read_as, read_element, list_part}
use Rattle.reading.specs.Reading.{fixed_fields, reading}
use Rattle.octets.proofs.Tests.{both, clash}
use Rattle.element.proofs.Lengths.{least_length}
use Rattle.element.proofs.Passing.{length_right}

-- ---- refusals

module _ (s : List ℕ) (a : Bool) (ae : a ≡ wrong_length s) (no_a : a ≡ false) where
  pub two_octets : 2 ≤ length s
  two_octets = (length_right s (sym ae ∙ no_a)).0

  pub one_octet : 0 < length s
  one_octet = let h = two_octets in omega arith

  pub read_7 : (Unit {0} → known (get_or s 0 0) ≡ false) → Err UnknownId ≡ reading s
  unfolding reading other_id
  read_7 none = let h = none tt in cc

  module _ (k : Kind) (known_kind : Unit {0} → (known (get_or s 0 0) ≡ true) × (k ≡ kind_in s)) where
    module _ (f : Bool) (fe : f ≡ fits k (get_or s 1 0) (count_as k s)) where
      pub read_8 : not f ≡ true → Err BadCount ≡ reading s
      unfolding reading other_id misfit
      read_8 no_f = let h = known_kind tt in cc

      pub fixed_part_there : not f ≡ false → 2 + length_with k 0 ≤ length s
      unfolding fits
      fixed_part_there yes_f =
          let n = count_as k s in
          let long = eqb-true (get_or s 1 0) (length_with k n) (both (eqb (get_or s 1 0) (length_with k n)) (count_ok k n) (sym fe ∙ not-false f yes_f)).0 in
          omega (arith, (length_right s (sym ae ∙ no_a)).1, least_length k n)

      pub read_all : not f ≡ false → (r : Fields) → r ≡ fixed_fields (read_as k s) → Ok r ≡ reading s
      unfolding reading other_id misfit read_element
      read_all yes_f r e = let h = known_kind tt in cc

-- ---- the list part

-- An ID that is none of the four counts as that of a RERR.
counts_as_rerr : (id : ℕ) → known id ≡ false → Rerr ≡ kind_with id
unfolding known kind_with
counts_as_rerr id e = by (eqb id 126) (eqb id 130) (eqb id 131) (eqb id 132) e
  where
    by : (w x y z : Bool) → (w || x || y || z) ≡ false → Rerr ≡ cond w Rann (cond x Rreq (cond y Rrep Rerr))
    by true x y z none = clash cc
    by false true y z none = clash cc
    by false false true z none = clash cc
    by false false false z none = refl

kind_or_rerr : {E : Type 0} (id : ℕ) (q : Result Kind E) → MatchResult q (λ k. (known id ≡ true) × (k ≡ kind_with id)) (λ _. known id ≡ false)
    → result_unwrap_or q Rerr ≡ kind_with id
kind_or_rerr id (Ok k) told = told.1
kind_or_rerr id (Err e) told = counts_as_rerr id told

pub starts_there : {E : Type 0} (s : List ℕ) (id : ℕ) → id ≡ get_or s 0 0
    → (q : Result Kind E) → MatchResult q (λ k. (known id ≡ true) × (k ≡ kind_with id)) (λ _. known id ≡ false)
    → (k : Kind) → k ≡ result_unwrap_or q Rerr → (long : ℕ) → long ≡ length_with k 0 → 2 + long ≡ 2 + length_with (kind_in s) 0
starts_there s id ide q told k ke long le =
    ap (λ (n : ℕ). 2 + n) (le ∙ ap (λ (j : Kind). length_with j 0) (ke ∙ kind_or_rerr id q told ∙ ap kind_with ide))

pub list_left : (s : List ℕ) (begin start : ℕ) → begin ≡ 2 + length_with (kind_in s) 0 → start ≡ min begin (length s) → take (length s - start) (drop start s) ≡ list_part s
unfolding list_part
list_left s begin start be e =
    take_all (length s - start) (drop start s) (rw (length-drop start s) (omega arith)) ∙ ap (λ (n : ℕ). drop n s) e ∙ drop_min begin s ∙ ap (λ (n : ℕ). drop n s) be

-- ---- fields

module _ (s : List ℕ) where
  pub path_read : (at : ℕ) {a b c d e f g : ℕ}
      → a ≡ number_at 1 s 2 → b ≡ number_at 1 s 3 → c ≡ number_at 1 s 4
      → d ≡ number_at 6 s at → e ≡ number_at 4 s (at + 6) → f ≡ number_at 4 s (at + 10) → g ≡ number_at 4 s (at + 14)
      → path_from (a ∷ b ∷ c ∷ d ∷ e ∷ f ∷ g ∷ []) 3 ≡ path_from (fields_at (1 ∷ 1 ∷ 1 ∷ []) s 2 0 ++ fields_at (6 ∷ 4 ∷ 4 ∷ 4 ∷ []) s at 0) 3
  unfolding fields_at
  path_read at p₁ p₂ p₃ p₄ p₅ p₆ p₇ = cc (add-zero at)

  pub rann_fields : (k : Kind) → k ≡ Rann → (p : PathInfo)
      → p ≡ path_from (fields_at (1 ∷ 1 ∷ 1 ∷ []) s 2 0 ++ fields_at (6 ∷ 4 ∷ 4 ∷ 4 ∷ []) s 5 0) 3 → Announcement p ≡ fixed_fields (read_as k s)
  unfolding read_as fields_at
  rann_fields k ke p e = rw (ke, e) refl
