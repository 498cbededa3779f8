-- Laws of an array that a closure fills.
use Prim.Native.Nat.{ℕ, zero, suc, ◌+◌, ◌<◌, ◌≤◌}
use mathlib.Core.Path.{◌≡◌, sym, ◌∙◌}
use mathlib.Core.List.{List}
use lib.ListN.{length, get_or, take, drop}
use lib.Seq.{ext_get_or, get_or-take, get_or-drop}
use native.Mathlib.Omega.{arith}
use Rattle.std.proofs.lemmas.List.{length-drop, length-take-le}
use Rattle.std.specs.Fn.{Mut}
use Rattle.std.specs.Iterator.{ActsAs}
use Rattle.std.specs.Array.{IsFromFnResult, IsFromFnResultFrom}

module _ {F : Type 0} (g : Mut F (ℕ × Unit {0}) ℕ) (f : F) (h : ℕ → ℕ) (acts : ActsAs g f h) (ys : List ℕ) where
  -- Each item is what the closure gives at its index.
  filled_at : (i n k : ℕ) → IsFromFnResultFrom g f ys i n → k < n → get_or ys (i + k) 0 ≡ h (i + k)
  filled_at i zero k r l = absurd (omega (arith, l))
  filled_at i (suc n) zero r l = let at : i + 0 ≡ i = omega arith in rw at (r.2.1 0 ∙ (acts i r.1 r.0 r.3).1)
  filled_at i (suc n) (suc k) r l =
      let at : i + suc k ≡ i + 1 + k = omega arith in
      rw at (filled_at (i + 1) n k (rw (acts i r.1 r.0 r.3).0 at r.4) (omega (arith, l)))

-- If the closure gives the octet at its index after place `at`, the array holds the n octets from there on.
pub filled : {F : Type 0} (g : Mut F (ℕ × Unit {0}) ℕ) (f : F) (s : List ℕ) (at n : ℕ) → ActsAs g f (λ j. get_or s (at + j) 0)
    → (ys : List ℕ) → IsFromFnResult g f ys n → at + n ≤ length s → ys ≡ take n (drop at s)
filled g f s at n acts ys r within =
    ext_get_or 0 ys (take n (drop at s)) (r.long ∙ sym (length-take-le n (drop at s) (omega (arith, length-drop at s))))
    (λ k l.
    let below : k < n = omega (arith, l, r.long) in
    let from_zero : 0 + k ≡ k = omega arith in
    let given : get_or ys (0 + k) 0 ≡ get_or s (at + (0 + k)) 0 = filled_at g f (λ j. get_or s (at + j) 0) acts ys 0 n k r.each below in
    (rw from_zero at given)
    ∙ sym (get_or-take n (drop at s) k 0 below ∙ get_or-drop at s k 0))
