-- Laws of going through a list of checks one by one, as the proof of a `return` needs them. Other laws here say what the answer
-- tells about the call.
use Prim.Native.Nat.{ℕ, ◌≤◌}
use mathlib.Core.Path.{◌≡◌, refl, sym, ap, ap₂, ◌∙◌}
use mathlib.Core.Bool.{Bool, true, false, not, ◌||◌, cond}
use mathlib.Core.List.{List, [], ◌∷◌, ◌++◌, append-nil}
use lib.ListN.{length}
use borrow.Author.Tests.{eq-eqb, ne_eqb, lt-ltb, le-ltb, ltb-false, not-false}
use Rattle.octets.proofs.Tests.{clash}
use Rattle.octets.specs.LittleEndian.{overwrite}
use Rattle.layout.specs.Layout.{sized, Sized}
use Rattle.table.proofs.Cases.{of_size}
use Rattle.std.specs.Prelude.{⊤, Ok, Err}
use Rattle.refusals.specs.declared.Refusal.{Refusal}
use Rattle.rules.specs.Decision.{Decision, Check, Ruling, judged, decide}
use Rattle.rules.specs.Checks.{buffer_checks}
use Rattle.rules.specs.Exit.{Lent, Effect, frame_octets, Exit, at_exit}
use Rattle.rules.proofs.Rulings.{Passed, passed}
use Rattle.calls.specs.declared.Emitted.{Emitted}
use Rattle.calls.specs.Answers.{answer_to, emitted, exit_of}

-- The value of an answer that accepts.
done : ⊤
done = tt

-- ---- one check after another

module _ (n : Refusal) (b : Bool) (checks : List Check) where
  pub applies : b ≡ true → Err n ≡ answer_to (record { refusal = n; applies = b } ∷ checks)
  unfolding answer_to
  applies e = rw e

  pub passes : b ≡ false → (r : Decision ⊤) → r ≡ answer_to checks → r ≡ answer_to (record { refusal = n; applies = b } ∷ checks)
  unfolding answer_to
  passes e r h = rw e h

pub all_passed : (u : ⊤) → Ok u ≡ answer_to []
unfolding answer_to
all_passed u = refl

-- Part of the list, taken alone.
pub part_refused : (part checks : List Check) (n : Refusal) → Err n ≡ answer_to part → Err n ≡ answer_to (part ++ checks)
unfolding answer_to
part_refused [] checks n e = clash cc
part_refused (k ∷ part) checks n e = by k.applies e (part_refused part checks n)
  where
    by : (b : Bool) → Err n ≡ cond b (Err k.refusal) (judged part done) → (Err n ≡ judged part done → Err n ≡ judged (part ++ checks) done)
        → Err n ≡ cond b (Err k.refusal) (judged (part ++ checks) done)
    by true e rest = e
    by false e rest = rest e

pub part_decided : {A : Type 0} (x : A) (part checks : List Check) (u : ⊤) → Ok u ≡ answer_to part → judged checks x ≡ judged (part ++ checks) x
unfolding answer_to
part_decided x [] checks u e = refl
part_decided x (k ∷ part) checks u e = by k.applies e (part_decided x part checks u)
  where
    by : (b : Bool) → Ok u ≡ cond b (Err k.refusal) (judged part done) → (Ok u ≡ judged part done → judged checks x ≡ judged (part ++ checks) x)
        → judged checks x ≡ cond b (Err k.refusal) (judged (part ++ checks) x)
    by true e rest = clash cc
    by false e rest = rest e

part_passed : (part checks : List Check) (u : ⊤) → Ok u ≡ answer_to part → answer_to checks ≡ answer_to (part ++ checks)
unfolding answer_to
part_passed part checks u e = part_decided done part checks u e

-- For a check that begins with the check of another function.
module _ (part : List Check) (a : Decision ⊤) (ae : a ≡ answer_to part) (checks : List Check) where
  pub refused_first : (n : Refusal) → a ≡ Err n → Err n ≡ answer_to (part ++ checks)
  refused_first n e = part_refused part checks n (sym e ∙ ae)

  pub passed_first : (u : ⊤) → a ≡ Ok u → (r : Decision ⊤) → r ≡ answer_to checks → r ≡ answer_to (part ++ checks)
  passed_first u e r h = h ∙ part_passed part checks u (sym e ∙ ae)

-- A part that nothing follows.
pub part_last : (part : List Check) (r : Decision ⊤) → r ≡ answer_to part → r ≡ answer_to (part ++ [])
part_last part r e = e ∙ ap answer_to (sym (append-nil part))

-- The test of a check, by the test in the code.
module _ (a b : Bool) (e : a ≡ b) (v : Bool) where
  pub as_tested : a ≡ v → b ≡ v
  as_tested h = sym e ∙ h

  pub as_denied : not a ≡ v → not b ≡ v
  as_denied h = ap not (sym e) ∙ h

pub either_tested : (a b c d : Bool) → a ≡ b → c ≡ d → (v : Bool) → (a || c) ≡ v → (b || d) ≡ v
either_tested a b c d e f v h = ap₂ ◌||◌ (sym e) (sym f) ∙ h

-- The laws that prove the `return` of a check.
pub ruleset checking = (applies, passes, all_passed, as_tested, as_denied, either_tested, lt-ltb, le-ltb, eq-eqb, ne_eqb)

-- ---- what the answer says

module _ {A : Type 0} (x : A) where
  -- Returns the decision that an answer stands for, where x is what an accepted call does.
  abbrev pub as_decision : Decision ⊤ → Decision A
  as_decision (Ok u) = Ok x
  as_decision (Err n) = Err n

  answer_decides : (checks : List Check) (a : Decision ⊤) → a ≡ answer_to checks → judged checks x ≡ as_decision a
  unfolding answer_to
  answer_decides [] a e = rw e
  answer_decides (k ∷ checks) a e = by k.applies e (answer_decides checks a)
    where
      by : (b : Bool) → a ≡ cond b (Err k.refusal) (judged checks done) → (a ≡ judged checks done → judged checks x ≡ as_decision a)
          → cond b (Err k.refusal) (judged checks x) ≡ as_decision a
      by true e rest = rw e
      by false e rest = rest e

pub answer_passed : (checks : List Check) (u : ⊤) → Ok u ≡ answer_to checks → Passed checks
unfolding answer_to
answer_passed checks u e = (passed (record { checks = checks; otherwise = done }) u (sym e)).0

pub decided_as : {A : Type 0} (r : Ruling A) (a : Decision ⊤) → a ≡ answer_to r.checks → decide r ≡ as_decision r.otherwise a
decided_as r a ae = answer_decides r.otherwise r.checks a ae

module _ (l : Lent) (output : List ℕ) (r : Ruling Effect) (a : Decision ⊤) (ae : a ≡ answer_to r.checks) where
  pub refusal : (n : Refusal) → a ≡ Err n → exit_of (Err n) l output ≡ at_exit l output (decide r)
  unfolding at_exit
  refusal n e = sym (ap (at_exit l output) (decided_as r a ae ∙ ap (as_decision r.otherwise) e))

  pub acceptance : (u : ⊤) → a ≡ Ok u → (x : Exit) → x ≡ at_exit l output (Ok r.otherwise) → x ≡ at_exit l output (decide r)
  acceptance u e x h = h ∙ sym (ap (at_exit l output) (decided_as r a ae ∙ ap (as_decision r.otherwise) e))

-- The exit of an accepted call, by the `Lent` and the output that it leaves, and by its frames.
pub accepted_exit : (l : Lent) (output : List ℕ) (x : Effect) (m : Lent) (v : List ℕ) (e : Emitted) → m ≡ x.lent
    → v ≡ overwrite output 0 (frame_octets x.frames) → e ≡ emitted x.frames → exit_of (Ok e) m v ≡ at_exit l output (Ok x)
unfolding at_exit
accepted_exit l output x m v e me ve ee = rw (me, ve, ee)

-- Check 1 bounds the length of a table.
pub passes_1 : (t : List ℕ) (a : Bool) → a ≡ sized t → not a ≡ false → Sized t
passes_1 t a ae yes_a = of_size t a ae (not-false a yes_a)

-- The first two checks of every call that has an output. If they pass, both buffers are long enough for what follows.
module _ (t output : List ℕ) (checks : List Check) (a : Decision ⊤) (ae : a ≡ answer_to (buffer_checks t (length output) ++ checks)) (u : ⊤) (ok : a ≡ Ok u) where
  first_two : Passed (buffer_checks t (length output) ++ checks)
  first_two = answer_passed (buffer_checks t (length output) ++ checks) u (sym ok ∙ ae)

  pub table_sized : Sized t
  table_sized = of_size t (sized t) refl (not-false (sized t) first_two.0)

  pub output_long : 1560 ≤ length output
  output_long = ltb-false (length output) 1560 first_two.1.0
