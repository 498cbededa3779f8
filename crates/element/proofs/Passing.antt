-- What holds for octets that pass refusals 6, 7 and 8.
use Prim.Native.Nat.{ℕ, ◌+◌, ◌≤◌}
use mathlib.Core.Path.{◌≡◌, refl, sym, ap, ◌∙◌}
use mathlib.Core.Bool.{Bool, true, false, ◌&&◌, ◌||◌, not, cond}
use mathlib.Core.List.{List}
use lib.Dec.{eqb, ltb}
use lib.ListN.{length, get_or}
use borrow.Author.Tests.{ltb-false, eqb-true, not-false}
use Rattle.element.specs.declared.Kind.{Kind}
use Rattle.element.specs.declared.Kind.TheVariants.{Rann, Rreq, Rrep, Rerr}
use Rattle.element.specs.Layout.{known, kind_with, fits, id_of, length_with, count_ok}
use Rattle.element.specs.Octets.{kind_in, count_as, wrong_length, other_id, misfit}
use Rattle.octets.proofs.Tests.{both, neither}

-- An ID is known exactly if it is the ID of the type that `kind_with` gives for it.
pub known_is : (id : ℕ) → known id ≡ eqb id (id_of (kind_with id))
unfolding known kind_with
known_is id = by (eqb id 126) (eqb id 130) (eqb id 131) refl refl refl
  where
    by : (a b c : Bool) → eqb id 126 ≡ a → eqb id 130 ≡ b → eqb id 131 ≡ c
        → (a || b || c || eqb id 132) ≡ eqb id (id_of (cond a Rann (cond b Rreq (cond c Rrep Rerr))))
    by true b c ae be ce = sym ae
    by false true c ae be ce = sym be
    by false false true ae be ce = sym ce
    by false false false ae be ce = refl

-- Octets that pass refusal 6 are at least two, and are two more than Length says.
pub length_right : (s : List ℕ) → wrong_length s ≡ false → (2 ≤ length s) × (2 + get_or s 1 0 ≡ length s)
unfolding wrong_length
length_right s e =
    let f = neither (ltb (length s) 2) (not (eqb (2 + get_or s 1 0) (length s))) e in
    (ltb-false (length s) 2 f.0, eqb-true (2 + get_or s 1 0) (length s) (not-false (eqb (2 + get_or s 1 0) (length s)) f.1))

-- What holds for octets of the type k that pass refusals 6, 7 and 8.
pub record Passed (s : List ℕ) (k : Kind) : Type 0 where
  pub id : id_of k ≡ get_or s 0 0
  pub long : get_or s 1 0 ≡ length_with k (count_as k s)
  pub count : count_ok k (count_as k s) ≡ true
  pub size : length s ≡ 2 + length_with k (count_as k s)

pub passed : (s : List ℕ) → wrong_length s ≡ false → other_id s ≡ false → misfit s ≡ false → Passed s (kind_in s)
unfolding other_id misfit fits
passed s a b c =
    let k : Kind = kind_in s in
    let n : ℕ = count_as k s in
    let m = both (eqb (get_or s 1 0) (length_with k n)) (count_ok k n) (not-false (eqb (get_or s 1 0) (length_with k n) && count_ok k n) c) in
    let long = eqb-true (get_or s 1 0) (length_with k n) m.0 in
    record {
      id = sym (eqb-true (get_or s 0 0) (id_of k) (sym (known_is (get_or s 0 0)) ∙ not-false (known (get_or s 0 0)) b));
      long = long;
      count = m.1;
      size = sym (length_right s a).1 ∙ ap (λ (l : ℕ). 2 + l) long;
    }
