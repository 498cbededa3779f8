-- If a call is accepted, none of its checks applied.
use Rattle.refusals.specs.Numbers.{number_of}
use Rattle.std.specs.Prelude.{Err, Ok}
use mathlib.Core.Path.{◌≡◌, refl}
use mathlib.Core.Bool.{Bool, true, false, cond}
use mathlib.Core.List.{List, [], ◌∷◌}
use Prim.Native.Nat.{ℕ}
use lib.Dec.{eqb}
use Rattle.octets.proofs.Tests.{clash}
use Rattle.rules.specs.Decision.{Check, Ruling, judged, decide}
use Rattle.rules.specs.Checks.{operand_checks, state_checks}
use Rattle.rules.specs.Receive.{arrival_checks, octet_checks, field_checks, judging, reading_octets}
use Rattle.rules.specs.Originate.{item_checks, asking}
use Rattle.rules.specs.Break.{breaking}
use Rattle.rules.proofs.Branches.{cond_cases}

-- To unfold `listed` is to unfold all definitions that it names. The checks of a call are then a list that is written out.
unfoldable pub listed : Unit {0}
unfolding operand_checks state_checks arrival_checks octet_checks field_checks judging reading_octets item_checks asking breaking
listed = tt

-- States that no check applies.
abbrev pub Passed : List Check → Type 0
Passed [] = Unit {0}
Passed (k ∷ checks) = (k.applies ≡ false) × Passed checks

judged_accepted : {A : Type 0} (checks : List Check) (a u : A) → judged checks a ≡ Ok u → Passed checks × (a ≡ u)
judged_accepted [] a u e = (tt, cc)
judged_accepted (k ∷ checks) a u e = by k.applies refl e (judged_accepted checks a u)
  where
    by : (b : Bool) → k.applies ≡ b → cond b (Err k.refusal) (judged checks a) ≡ Ok u
        → (judged checks a ≡ Ok u → Passed checks × (a ≡ u)) → ((k.applies ≡ false) × Passed checks) × (a ≡ u)
    by true q e rest = clash cc
    by false q e rest = ((q, (rest e).0), (rest e).1)

-- An accepted call passed all checks of its ruling, and does what the ruling says.
pub passed : {A : Type 0} (r : Ruling A) (u : A) → decide r ≡ Ok u → Passed r.checks × (r.otherwise ≡ u)
passed r u e = judged_accepted r.checks r.otherwise u e

-- Returns the test of the check with this number. It computes for a numeral and a list that is written out.
abbrev pub test_of : ℕ → List Check → Bool
test_of n [] = false
test_of n (k ∷ checks) = cond (eqb (number_of k.refusal) n) k.applies (test_of n checks)

pub passed_check : (n : ℕ) (checks : List Check) → Passed checks → test_of n checks ≡ false
passed_check n [] h = refl
passed_check n (k ∷ checks) h = cond_cases (λ b. b ≡ false) (eqb (number_of k.refusal) n) (λ _. h.0) (λ _. passed_check n checks h.1)
