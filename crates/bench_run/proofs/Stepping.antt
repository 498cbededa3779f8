-- Laws of one command of a block: its line or fault, and what is left.
use Prim.Native.Nat.{ℕ, ◌+◌, ◌-◌, ◌<◌, ◌≤◌}
use mathlib.Core.Path.{◌≡◌, sym, ap, ◌∙◌}
use mathlib.Core.List.{List, ◌++◌}
use lib.ListN.{length, take, drop, length-drop}
use lib.Seq.{take_all}
use native.Mathlib.Omega.{arith}
use Rattle.std.specs.Prelude.{Result, Ok, Err}
use Rattle.octets.specs.LittleEndian.{number_at}
use Rattle.bench_commands.specs.Commands.{octet_of}
use Rattle.bench_rules.specs.Bench.{WithLinks}
use Rattle.bench_rules.specs.Interpreter.{length_of, command}
use Rattle.bench_rules.specs.Text.{line_text, fault_text}
use Rattle.bench_rules.specs.Run.{going, ended, obey_first}
use Rattle.bench_rules.proofs.Sound.{whole_command}
use Rattle.bench_points.specs.declared.Bench.{Bench}
use Rattle.bench_points.specs.declared.Fault.{Fault}
use Rattle.bench_points.specs.InCode.{bench_of, came_in}
use Rattle.bench_core.specs.declared.interpreter.Line.{Line}
use Rattle.bench_core.specs.InCode.{printed_of}
use Rattle.bench_run.specs.Blocks.{standing}

-- The part from place k to the end of s is all that lies after the first k octets.
pub to_the_end : (s : List ℕ) (k : ℕ) → take (length s - k) (drop k s) ≡ drop k s
to_the_end s k = take_all (length s - k) (drop k s) (omega (arith, length-drop k s))

-- The command at the start of the rest of a block has the result d.
module _ (b : Bench) (used : ℕ) (block : List ℕ) (d : Result Line Fault) (b' : Bench)
    (e : came_in (printed_of d) b' ≡ command (bench_of b) b.links (take (length block - used) (drop used block))) where
  abbrev rest : List ℕ
  rest = take (length block - used) (drop used block)

  se : rest ≡ drop used block
  se = to_the_end block used

  module _ (line : Line) (de : d ≡ Ok line) (first : octet_of line.command ≡ number_at 1 rest 0) (n : ℕ)
      (ne : n ≡ length_of (octet_of line.command)) where
    obeyed : came_in (Ok line.printed) b' ≡ command (bench_of b) b.links rest
    obeyed = rw de at e

    pub line_fits : used < length block → used + n ≤ length block
    line_fits l =
        let whole = (whole_command (bench_of b) b.links rest _ _ _ (sym (ap (λ (w : WithLinks). w.done) obeyed))).1 in
        omega (arith, whole, l, ne ∙ ap length_of first, ap length se, length-drop used block)

    pub line_course : (offset o : ℕ) → o ≡ octet_of line.command → (text text' : List ℕ)
        → text' ≡ text ++ line_text o line.printed.answer line.printed.third
        → going text' (standing b' (offset + (used + n))) ≡ obey_first text (standing b (offset + used)) (drop used block)
    unfolding obey_first
    line_course offset o oe text text' te =
        let place : offset + (used + n) ≡ offset + used + n = omega arith in
        rw (← se, ← obeyed, te, place, oe, ne, first)

  pub fault_course : (f : Fault) → d ≡ Err f → (offset at : ℕ) → at ≡ offset + used → (text text' : List ℕ) → text' ≡ text ++ fault_text at
      → ended text' ≡ obey_first text (standing b (offset + used)) (drop used block)
  unfolding obey_first
  fault_course f de offset at ae text text' te =
      let came : came_in (Err f) b' ≡ command (bench_of b) b.links rest = rw de at e in
      rw (← se, ← came, te, ae)
