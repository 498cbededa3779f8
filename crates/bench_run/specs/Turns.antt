-- Defines the turns of the bench. Each turn reads and obeys a block. Only contracts of the code use the definitions of this file.
use Rattle.std.specs.Prelude.{ℕ, ◌+◌, ◌≡◌, Bool, true, ◌&&◌, List, [], ◌++◌, eqb, length, Option, Some, None, is_none, IfSome}
use Rattle.bench_rules.specs.Run.{Standing, at_start, Course, going, ended, obey_until, obey_all}
use Rattle.bench_input.specs.declared.Cursor.{Cursor}
use Rattle.bench_input.specs.Reading.{left, past, Unread, Extends}
use Rattle.bench_points.specs.declared.Bench.{Bench}
use Rattle.bench_run.specs.Blocks.{standing, pauses_in}

-- States that some input has led the bench to x, with the octets `left` still to be obeyed. Whatever octets come in later, to
-- obey the whole input from the start is to continue from x with `left` and then the later octets.
pub record Reached (x : Standing) (left : List ℕ) : Type 0 where
  pub input : List ℕ
  pub printed : List ℕ
  pub goes_on : (more : List ℕ) → obey_all (going [] at_start) (input ++ more) ≡ obey_all (going printed x) (left ++ more)

-- Reports whether the bench has ended: at a fault, or because the input has ended and the bench has reached its end.
abbrev pub is_over : (last : Bool) → (end : ℕ) → Course → Bool
is_over last end (ended text) = true
is_over last end (going text x) = last && eqb x.offset end

-- Returns the course of a turn that obeys the octets of `block` from x.
abbrev pub block_course : (last : Bool) → Standing → (block : List ℕ) → Course
block_course last x block = obey_until (pauses_in last) (length block) (going [] x) block

-- States what a turn finds.
pub record Ready (c : Cursor) (buffer : List ℕ) (b : Bench) : Type 0 where
  pub unread : Unread c buffer
  pub reached : Reached (standing b c.offset) (left c buffer)

-- States what a turn leaves, unless the bench has ended.
abbrev pub GoesOn : (after : Option Cursor) → (buffer : List ℕ) → Bench → Type 0
GoesOn None buffer b = Unit {0}
GoesOn (Some after) buffer b = Ready after buffer b

-- States that a turn obeyed the octets of c in the buffer from x, and that the bench then stands where these octets bring it,
-- with the cursor after the octets that were obeyed.
pub record Comes (after : Cursor) (x : Standing) (c : Cursor) (buffer : List ℕ) (b : Bench) : Type 0 where
  pub used : ℕ
  pub cursor : after ≡ past c used
  pub text : List ℕ
  pub course : block_course c.last x (left c buffer) ≡ going text (standing b after.offset)

-- States what a turn leaves that obeyed the octets of c in the buffer from x. The bench has ended exactly if the octets bring it
-- to its end.
pub record Turned (after : Option Cursor) (x : Standing) (c : Cursor) (buffer : List ℕ) (b : Bench) : Type 0 where
  pub ended : is_none after ≡ is_over c.last (x.offset + length (left c buffer)) (block_course c.last x (left c buffer))
  pub comes : IfSome after (λ (k : Cursor). Comes k x c buffer b)

-- States what a turn leaves that may first have read more octets after `left₀`.
pub record ReadAndTurned (after : Option Cursor) (x : Standing) (left₀ buffer : List ℕ) (b : Bench) : Type 0 where
  pub unread : Cursor
  pub offset : unread.offset ≡ x.offset
  pub extends : Extends left₀ (left unread buffer)
  pub turned : Turned after x unread buffer b
