-- Defines effects and exits: what an accepted call leaves and emits, and what the caller finds when any call has ended. PROTOCOL,
-- 'Frames and answers'.
use Rattle.refusals.specs.Numbers.{number_of}
use Rattle.std.specs.Prelude.{ℕ, zero, suc, ◌+◌, length, get_or, take, drop, Err, Ok}
use mathlib.Core.List.{List, [], ◌∷◌, flat_map}
use Rattle.octets.specs.LittleEndian.{overwrite}
use Rattle.counters.specs.declared.SequenceNumber.{SequenceNumber}
use Rattle.layout.specs.declared.address.Address.{Address}
use Rattle.layout.specs.Address.{address_of}
use Rattle.layout.specs.Row.{head_with}
use Rattle.layout.specs.Layout.{head_at, put_head}
use Rattle.table.specs.Table.{request_id}
use Rattle.element.specs.Element.{Element}
use Rattle.element.specs.Octets.{read_element, write_frame}
use Rattle.rules.specs.Decision.{Decision}

-- The fewest octets that an output may have (refusal 2). They hold the frames of any call.
abbrev pub least_output : ℕ
least_output = 1560

-- The TTL of an element that a point originates or replies with.
abbrev pub initial_ttl : ℕ
initial_ttl = 31

-- A frame is a receiver address and an element.
pub record Frame : Type 0 where
  pub receiver : Address
  pub element : Element

-- What a point lends to a call for writing, apart from the output: its table.
pub record Lent : Type 0 where
  pub table : List ℕ

-- Lends the table t alone.
abbrev pub lend : List ℕ → Lent
lend t = record { table = t }

-- Replaces the lent table by t and leaves the rest of l unchanged.
abbrev pub with_table : List ℕ → Lent → Lent
with_table t l = record { table = t }

-- The effect of an accepted call: what it leaves in the lent table, and the frames that it emits.
pub record Effect : Type 0 where
  pub lent : Lent
  pub frames : List Frame

-- Returns the octets of the frames, one frame after another without gaps.
unfoldable pub frame_octets : List Frame → List ℕ
frame_octets frames = flat_map (λ (f : Frame). write_frame f.receiver f.element) frames

-- Returns the rows of u under the head of t, in which n is the own number and c the latest clock.
abbrev pub under_head : List ℕ → SequenceNumber → ℕ → List ℕ → List ℕ
under_head t n c u = put_head u (head_with n (request_id t) c (head_at t))

-- ---- at exit

-- The exit of a call: its answer, how many frames and octets it has written, and what then stands in the lent table and in the
-- output.
pub record Exit : Type 0 where
  pub answer : ℕ
  pub frames : ℕ
  pub octets : ℕ
  pub lent : Lent
  pub output : List ℕ

-- An acceptance answers 0, reports frames and octets written, and writes its frames from the start of the output. Output beyond
-- the frames is unchanged. A refusal answers its number, returns zeros in all other fields, and changes nothing lent.
unfoldable pub at_exit : Lent → List ℕ → Decision Effect → Exit
at_exit l output (Err r) = record { answer = number_of r; frames = 0; octets = 0; lent = l; output = output }
at_exit l output (Ok e) =
    record {
      answer = 0;
      frames = length e.frames;
      octets = length (frame_octets e.frames);
      lent = e.lent;
      output = overwrite output 0 (frame_octets e.frames);
    }

-- ---- frames read from octets

-- Returns the first n frames in s, each as its octets: receiver 6, ID 1, Length 1, and as many octets as Length says.
unfoldable pub frames_in : ℕ → List ℕ → List (List ℕ)
frames_in zero s = []
frames_in (suc n) s = take (8 + get_or s 7 0) s ∷ frames_in n (drop (8 + get_or s 7 0) s)

-- Returns the frames in the output at exit, as many as the call reports.
abbrev pub frames_at : Exit → List (List ℕ)
frames_at x = frames_in x.frames x.output

-- Returns the octets of a frame without its receiver.
abbrev pub element_in : List ℕ → List ℕ
element_in s = drop 6 s

-- Reads the octets of a frame as a value.
abbrev pub read_frame : List ℕ → Frame
read_frame s = record { receiver = address_of s; element = read_element (element_in s) }

-- ---- calls that write no frame

-- The exit of a call that writes no frame: its answer, and what then stands in the table.
pub record TableExit : Type 0 where
  pub answer : ℕ
  pub table : List ℕ

-- An acceptance answers 0. A refusal answers its number and leaves the table t unchanged.
abbrev pub table_at_exit : List ℕ → Decision (List ℕ) → TableExit
table_at_exit t (Err r) = record { answer = number_of r; table = t }
table_at_exit t (Ok u) = record { answer = 0; table = u }
