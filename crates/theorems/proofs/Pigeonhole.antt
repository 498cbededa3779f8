-- If a list has no address twice and a second list contains all its addresses, the first list is at most as long as the second.
use Prim.Native.Nat.{suc, ◌≤◌}
use mathlib.Core.Path.{◌≡◌, refl, ap}
use mathlib.Core.Bool.{Bool, true, false, ◌||◌, cond}
use mathlib.Core.List.{List, [], ◌∷◌}
use lib.ListN.{length}
use native.Mathlib.Omega.{arith}
use Rattle.octets.proofs.Tests.{clash}
use Rattle.layout.specs.declared.address.Address.{Address}
use Rattle.layout.specs.Address.{same}
use Rattle.table.proofs.WellFormed.{same_is}
use Rattle.element.specs.Entries.{All}
use Rattle.element.specs.Lists.{contains, has_duplicate}

-- Returns k without the first a in it.
unfoldable without : Address → List Address → List Address
without a [] = []
without a (b ∷ k) = cond (same b a) k (b ∷ without a k)

module _ (a : Address) where
  without_shorter : (k : List Address) → contains k a ≡ true → length k ≡ suc (length (without a k))
  unfolding contains without
  without_shorter [] h = clash cc
  without_shorter (b ∷ k) h = by (same b a) h (without_shorter k)
    where
      by : (test : Bool) → (test || contains k a) ≡ true → (contains k a ≡ true → length k ≡ suc (length (without a k)))
          → suc (length k) ≡ suc (length (cond test k (b ∷ without a k)))
      by true h rest = refl
      by false h rest = ap suc (rest h)

  -- An address of k other than a is still there.
  still_there : (b : Address) → same b a ≡ false → (k : List Address) → contains k b ≡ true → contains (without a k) b ≡ true
  unfolding contains without
  still_there b apart [] h = h
  still_there b apart (c ∷ k) h = by (same c a) refl (same c b) refl h (still_there b apart k)
    where
      by : (is_a : Bool) → same c a ≡ is_a → (is_b : Bool) → same c b ≡ is_b → (is_b || contains k b) ≡ true
          → (contains k b ≡ true → contains (without a k) b ≡ true) → contains (cond is_a k (c ∷ without a k)) b ≡ true
      by true e true f h rest = clash (cc (apart, e, same_is c b f))
      by true e false f h rest = h
      by false e true f h rest = rw f refl
      by false e false f h rest = rw f (rest h)

  others_there : (k l : List Address) → contains l a ≡ false → All (λ b. contains k b ≡ true) l → All (λ b. contains (without a k) b ≡ true) l
  unfolding contains All
  others_there k [] apart h = tt
  others_there k (b ∷ l) apart h = by (same b a) refl apart (others_there k l)
    where
      by : (test : Bool) → same b a ≡ test → (test || contains l a) ≡ false
          → (contains l a ≡ false → All (λ b. contains k b ≡ true) l → All (λ b. contains (without a k) b ≡ true) l)
          → (contains (without a k) b ≡ true) × All (λ b. contains (without a k) b ≡ true) l
      by true e apart rest = clash cc
      by false e apart rest = (still_there b e k h.0, rest apart h.1)

pub no_longer : (l k : List Address) → has_duplicate l ≡ false → All (λ a. contains k a ≡ true) l → length l ≤ length k
unfolding has_duplicate All
no_longer [] k once h = omega arith
no_longer (a ∷ l) k once h = by (contains l a) refl once (no_longer l (without a k))
  where
    by : (test : Bool) → contains l a ≡ test → (test || has_duplicate l) ≡ false
        → (has_duplicate l ≡ false → All (λ b. contains (without a k) b ≡ true) l → length l ≤ length (without a k)) → suc (length l) ≤ length k
    by true e once rest = clash cc
    by false e once rest = omega (arith, rest once (others_there a k l e h.1), without_shorter a k h.0)
