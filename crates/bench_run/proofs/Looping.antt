-- Laws of the commands of a block, one after another: the course so far and what is left to obey make the whole.
use Prim.Native.Nat.{ℕ, ◌+◌, ◌-◌, ◌<◌, ◌≤◌}
use mathlib.Core.Path.{◌≡◌, sym, ap, subst, ◌∙◌}
use mathlib.Core.Bool.{Bool, true, false, not, ◌&&◌}
use mathlib.Core.List.{List}
use lib.ListN.{length, drop, length-drop}
use native.Mathlib.Omega.{arith}
use borrow.Author.Tests.{lt-ltb, le-ltb}
use Rattle.std.specs.Prelude.{Option, Some, None}
use Rattle.bench_rules.specs.Interpreter.{is_cut}
use Rattle.bench_rules.specs.Run.{Standing, Course, going, ended, obey_first, behind, obey_until}
use Rattle.bench_rules.proofs.InParts.{obeyed_more, ended_stays, over_stays, paused_stays}
use Rattle.bench_points.specs.declared.Bench.{Bench}
use Rattle.bench_run.specs.Blocks.{standing, course_of, pauses_in, Uses}

-- States that g is the course of going on with the rest of the block.
pub record Remaining (last : Bool) (offset : ℕ) (block : List ℕ) (g : Course) (used : ℕ) (b : Bench) (text : List ℕ) : Type 0 where
  pub comes : obey_until (pauses_in last) (length (drop used block)) (going text (standing b (offset + used))) (drop used block) ≡ g

module _ (last : Bool) (offset : ℕ) (block : List ℕ) (g : Course) (used : ℕ) (b : Bench) (text : List ℕ)
    (i : Remaining last offset block g used b text) where
  abbrev rest : List ℕ
  rest = drop used block

  abbrev x : Standing
  x = standing b (offset + used)

  -- At the end of the block the course is g.
  pub block_over : length block ≤ used → going text x ≡ g
  block_over l = sym (over_stays (pauses_in last) (length rest) (going text x) rest (omega (arith, l, length-drop used block))) ∙ i.comes

  paused : pauses_in last text rest ≡ true → going text x ≡ g
  paused e = sym (paused_stays (pauses_in last) (length rest) text x rest e) ∙ i.comes

  -- The block pauses before a command that is cut.
  module _ (part : List ℕ) (cut : Bool) (ce : cut ≡ is_cut part) (pe : part ≡ rest) where
    pub cut_pauses : (not last && cut) ≡ true → going text x ≡ g
    unfolding pauses_in
    cut_pauses e = paused (rw (← pe, ← ce, e))

    module _ (whole : (not last && cut) ≡ false) (room : ℕ) (re : room + length text ≡ 65536) where
      free : 65536 - length text ≡ room
      free = omega (arith, re)

      -- The block pauses where a line may have no room.
      pub room_pauses : room < 64 → going text x ≡ g
      unfolding pauses_in
      room_pauses few = paused (rw (← pe, ← ce, whole, free, lt-ltb room 64 few))

      module _ (enough : 64 ≤ room) (l : used < length block) where
        goes_on : pauses_in last text rest ≡ false
        unfolding pauses_in
        goes_on = rw (← pe, ← ce, whole, free, le-ltb room 64 enough)

        -- After one more command, what is left still makes the whole.
        so_far : (c : Course) → c ≡ obey_first text x rest → obey_until (pauses_in last) (length (behind rest)) c (behind rest) ≡ g
        so_far c e =
            ap (λ (k : Course). obey_until (pauses_in last) (length (behind rest)) k (behind rest)) e
            ∙ sym (obeyed_more (pauses_in last) text x rest (omega (arith, l, length-drop used block)) goes_on) ∙ i.comes

        module _ (o : Option ℕ) (b' : Bench) (text' : List ℕ) (e : course_of o offset b' text' ≡ obey_first text x rest) where
          pub one_obeyed : (after : ℕ) → (Unit {0} → o ≡ Some after) → Uses used o block → Remaining last offset block g after b' text'
          one_obeyed after is u =
              let uses : Uses used (Some after) block = subst (λ (k : Option ℕ). Uses used k block) (is tt) u in
              let course : course_of (Some after) offset b' text' ≡ obey_first text x rest = rw (is tt) at e in
              record { comes = rw uses.1 (so_far (course_of (Some after) offset b' text') course) }

          pub fault_ends : (Unit {0} → o ≡ None) → (r : Option ℕ) → r ≡ None → course_of r offset b' text' ≡ g
          fault_ends is r re =
              let course : ended text' ≡ obey_first text x rest = rw (is tt) at e in
              ap (λ (k : Option ℕ). course_of k offset b' text') re ∙ sym (ended_stays (pauses_in last) (length (behind rest)) text' (behind rest))
              ∙ so_far (ended text') course
