-- Defines what the code holds of a run while it obeys a block of the input. Only contracts of the code use the definitions of
-- this file.
use Rattle.std.specs.Prelude.{ℕ, ◌+◌, ◌-◌, ◌<◌, ◌≡◌, Bool, not, ◌&&◌, ◌||◌, List, length, drop, Option, Some, None}
use Rattle.rules.specs.Decision.{◌below◌}
use Rattle.bench_rules.specs.Interpreter.{is_cut}
use Rattle.bench_rules.specs.Run.{Standing, Course, going, ended, behind}
use Rattle.bench_points.specs.declared.Bench.{Bench}
use Rattle.bench_points.specs.InCode.{bench_of}

-- Returns where the bench stands, with this offset of the next command.
abbrev pub standing : Bench → (offset : ℕ) → Standing
standing b offset = record { bench = bench_of b; links = b.links; offset = offset }

-- Returns the course of a block so far, from how many octets of the block are used, or nothing after a fault. The block begins at
-- this offset of the input.
abbrev pub course_of : (used : Option ℕ) → (offset : ℕ) → Bench → (text : List ℕ) → Course
course_of None offset b text = ended text
course_of (Some used) offset b text = going text (standing b (offset + used))

-- Reports whether a block pauses. It pauses before a command that is cut, unless the input has ended, and where the text may
-- have no room for a line.
unfoldable pub pauses_in : (last : Bool) → (text s : List ℕ) → Bool
pauses_in last text s = (not last && is_cut s) || (65536 - length text) below 64

-- States that a command which printed a line uses exactly its own octets, and at least one.
abbrev pub Uses : (used : ℕ) → (after : Option ℕ) → (block : List ℕ) → Type 0
Uses used None block = Unit {0}
Uses used (Some after) block = (used < after) × (drop after block ≡ behind (drop used block))
