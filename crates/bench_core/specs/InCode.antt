-- Defines the calls that the code makes for a point, and what such a call leaves in the bench.
use Rattle.refusals.specs.Numbers.{number_of}
use Rattle.calls.specs.declared.Emitted.{Emitted}
use Rattle.std.specs.Prelude.{ℕ, ◌+◌, cond, List, Result, Ok, Err}
use Rattle.rules.specs.Calls.{Call as InRules, receives, makes, asks, announces, breaks}
use Rattle.rules.specs.Decision.{◌above◌, Decision}
use Rattle.rules.specs.Exit.{frames_in}
use Rattle.bench_slots.specs.Slots.{element_of, put_frames, Holds}
use Rattle.bench_points.specs.declared.Printed.{Printed}
use Rattle.bench_points.specs.declared.Fault.{Fault}
use Rattle.bench_points.specs.InCode.{Contents}
use Rattle.bench_core.specs.declared.interpreter.Line.{Line}
use Rattle.bench_core.specs.declared.calling.Call.{Call}
use Rattle.bench_core.specs.declared.calling.Call.TheVariants.{Ask, Announce, Receive, Break}

-- Returns what a line prints after its command.
abbrev pub printed_of : Result Line Fault → Result Printed Fault
printed_of (Err e) = Err e
printed_of (Ok line) = Ok line.printed

-- ---- a call that may emit frames

-- Returns the call of the rules. What a point receives is the element in the slot.
abbrev pub call_of : (slots : List ℕ) → Call → InRules
call_of slots (Ask lifetime item) = makes (asks lifetime item)
call_of slots (Announce lifetime) = makes (announces 0 lifetime)
call_of slots (Receive arrival slot) = receives arrival (element_of slots slot.number)
call_of slots (Break clock neighbour) = makes (breaks clock neighbour)

-- `kept_as` returns the line after n frames were emitted, or a fault if there would then be more than 128 frames. `kept_bench`
-- returns what the bench then holds.
abbrev pub kept_as : Contents → (n : ℕ) → Result Printed Fault
kept_as b n = cond ((b.frames + n) above 128) (Err (record {})) (Ok (record { answer = 0; third = n }))

abbrev pub kept_bench : Contents → (sender n : ℕ) → (output : List ℕ) → Contents
kept_bench b sender n output =
    cond ((b.frames + n) above 128) b
    (record {
      points = b.points;
      frames = b.frames + n;
      clock = b.clock;
      tables = b.tables;
      slots = put_frames b.slots sender b.frames (frames_in n output);
      links = b.links;
    })

-- `settled_as` returns the line or the fault after the call, and `settled_bench` what the bench then holds.
abbrev pub settled_as : Contents → Decision Emitted → Result Printed Fault
settled_as b (Err r) = Ok (record { answer = number_of r; third = 0 })
settled_as b (Ok e) = kept_as b e.frames

abbrev pub settled_bench : Contents → Decision Emitted → (sender : ℕ) → (output : List ℕ) → Contents
settled_bench b (Err r) sender output = b
settled_bench b (Ok e) sender output = kept_bench b sender e.frames output

-- States that the frames of an acceptance are whole in the output.
unfoldable pub HoldsFrames : Decision Emitted → (output : List ℕ) → Type 0
HoldsFrames (Err r) output = Unit {0}
HoldsFrames (Ok e) output = Holds e.frames output
