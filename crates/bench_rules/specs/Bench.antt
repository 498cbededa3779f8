-- Defines what the bench holds, and the result of a command. PROTOCOL, 'Bench'.
use Rattle.refusals.specs.Numbers.{number_of}
use Rattle.std.specs.Prelude.{ℕ, ◌*◌, ◌<◌, ◌≤◌, Bool, cond, List, ◌++◌, map, ltb, length, take, drop, Err, Ok}
use Rattle.octets.specs.LittleEndian.{Octets}
use Rattle.layout.specs.declared.address.Address.{Address}
use Rattle.layout.specs.Address.{address_of}
use Rattle.layout.specs.Row.{max_clock}
use Rattle.element.specs.Entries.{All}
use Rattle.element.specs.Octets.{write_element}
use Rattle.rules.specs.Decision.{Decision, ◌above◌}
use Rattle.rules.specs.Exit.{Frame, lend, Effect, least_output}
use Rattle.rules.specs.Calls.{Call, decision}
use Rattle.rules.specs.Walk.{table_at}

-- Holds what the bench keeps of a frame: the number of its sender, and the octets of its element.
pub record KeptFrame : Type 0 where
  pub sender : ℕ
  pub element : List ℕ

-- Holds the tables of 16 rows side by side, how many of them are points, the frames kept and the clock.
pub record Bench : Type 0 where
  pub tables : List ℕ
  pub points : ℕ
  pub frames : List KeptFrame
  pub clock : ℕ

-- The result of a command. After a `fault` the bench ends. After a `line` the bench prints the answer and the third number, and
-- continues.
pub data Done : Type 0 where
  fault : Done
  line : (answer third : ℕ) → Bench → Done

-- Holds the result of a command with the link metrics after it. The links stand apart because only the link command changes
-- them.
pub record WithLinks : Type 0 where
  pub done : Done
  pub links : List (List ℕ)

-- ---- points, numbered from 0

-- Returns the table of point p: 32 octets and 16 rows of 32.
abbrev pub table_of_point : Bench → ℕ → List ℕ
table_of_point b p = table_at b.tables 544 p

abbrev pub address_of_point : Bench → ℕ → Address
address_of_point b p = address_of (table_of_point b p)

abbrev pub is_point : Bench → ℕ → Bool
is_point b p = ltb p b.points

-- Returns the tables with u as the table of point p.
unfoldable pub with_table_at : List ℕ → ℕ → List ℕ → List ℕ
with_table_at tables p u = take (544 * p) tables ++ (u ++ drop 544 (drop (544 * p) tables))

-- ---- a call of point p that may emit frames

-- Returns the frames that p emits, as the bench keeps them.
abbrev pub kept_from : ℕ → List Frame → List KeptFrame
kept_from p frames = map (λ (f : Frame). record { sender = p; element = write_element f.element }) frames

-- A refusal changes nothing. An acceptance leaves its table, and its frames after those kept before. A 129th frame is a fault.
unfoldable pub settled : Bench → ℕ → Decision Effect → Done
settled b p (Err r) = line (number_of r) 0 b
settled b p (Ok e) =
    let frames : List KeptFrame = b.frames ++ kept_from p e.frames in
    cond ((length frames) above 128) fault
    (line 0 (length e.frames)
    (record {
      tables = with_table_at b.tables p e.lent.table;
      points = b.points;
      frames = frames;
      clock = b.clock;
    }))

-- Point p calls, and lends its table and an output of the least length. It is a fault if there is no point p.
unfoldable pub called : Bench → ℕ → Call → Done
called b p call = cond (is_point b p) (settled b p (decision (lend (table_of_point b p)) least_output call)) fault

-- ---- what holds for a bench at any time

-- States that a point sent the frame, and that its element has at most 257 octets, because Length is an octet.
pub record KeptSoundly (points : ℕ) (f : KeptFrame) : Type 0 where
  pub sender : f.sender < points
  pub octets : Octets f.element
  pub short : length f.element ≤ 257

pub record Sound (b : Bench) : Type 0 where
  pub points : b.points ≤ 16
  pub clock : b.clock ≤ max_clock
  pub tables : Octets b.tables
  pub few : length b.frames ≤ 128
  pub frames : All (KeptSoundly b.points) b.frames
