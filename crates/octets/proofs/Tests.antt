-- Laws of two tests together.
use Prim.Native.Nat.{ℕ}
use mathlib.Core.Path.{◌≡◌, refl}
use mathlib.Core.Bool.{Bool, true, false, not, ◌&&◌, ◌||◌, and-eq-true_iff}
use native.Mathlib.Omega.{arith}

-- If two tests pass together, each of them passes.
pub both : (a b : Bool) → (a && b) ≡ true → (a ≡ true) × (b ≡ true)
both a b = (and-eq-true_iff a b).0

-- Anything follows if two tests or numbers that differ are also equal. Proofs write `clash cc`.
pub clash : {A : Type 0} → ◌≡◌ {A = ℕ} 0 1 → A
clash e = absurd (omega (arith, e))

-- If neither of two tests passes, each of them fails.
pub neither : (a b : Bool) → (a || b) ≡ false → (a ≡ false) × (b ≡ false)
neither true b e = clash cc
neither false b e = (refl, e)

-- If neither `not a` nor b passes, a holds.
pub first_holds : (a b : Bool) → (not a || b) ≡ false → a ≡ true
first_holds true b e = refl
first_holds false b e = clash cc
