-- Defines how what the code holds is read as the bench of the rules, the result of a command, and the contracts of functions
-- that are lent a part of what a bench holds.
use Rattle.std.specs.Prelude.{ℕ, ◌≡◌, ◌+◌, cond, eqb, List, Result, Ok, Err}
use Rattle.counters.specs.declared.SequenceNumber.{SequenceNumber}
use Rattle.layout.specs.declared.address.Address.{Address}
use Rattle.bench_slots.specs.Slots.{kept_in}
use Rattle.bench_rules.specs.Bench.{Bench as InRules, Done, fault, line, KeptFrame, WithLinks}
use Rattle.bench_rules.specs.Commands.{add_point, walk_to}
use Rattle.bench_points.specs.declared.Bench.{Bench}
use Rattle.bench_points.specs.declared.Printed.{Printed}
use Rattle.bench_points.specs.declared.Fault.{Fault}

-- Holds what a bench holds, without the facts that its type states.
pub record Contents : Type 0 where
  pub points : ℕ
  pub frames : ℕ
  pub clock : ℕ
  pub tables : List ℕ
  pub slots : List ℕ
  pub links : List (List ℕ)

abbrev pub contents : Bench → Contents
contents b = record { points = b.points; frames = b.frames; clock = b.clock; tables = b.tables; slots = b.slots; links = b.links }

-- Returns the bench of the rules that the code holds.
abbrev pub in_rules : Contents → InRules
in_rules c = record { tables = c.tables; points = c.points; frames = kept_in c.slots c.frames; clock = c.clock }

abbrev pub bench_of : Bench → InRules
bench_of b = in_rules (contents b)

-- Returns the result of a command, given the bench after the command. After a fault, the bench does not matter.
abbrev pub done_as : Result Printed Fault → InRules → Done
done_as (Err e) b = fault
done_as (Ok x) b = line x.answer x.third b

abbrev pub done_with : Result Printed Fault → Contents → Done
done_with r c = done_as r (in_rules c)

abbrev pub done_in : Result Printed Fault → Bench → Done
done_in r b = done_with r (contents b)

-- Returns the result of a command with the link metrics after it.
abbrev pub came_in : Result Printed Fault → Bench → WithLinks
came_in r b = record { done = done_in r b; links = b.links }

-- States that a fault leaves the numbers of the bench as they were. It says nothing of the tables and the slots, which a call that
-- ends in a fault may have changed.
abbrev pub FaultKeeps : {A : Type 0} → Result A Fault → (before after : Bench) → Type 0
FaultKeeps (Err e) before after =
    (after.points ≡ before.points) × (after.frames ≡ before.frames) × (after.clock ≡ before.clock)
FaultKeeps (Ok x) before after = Unit {0}

-- ---- contracts of functions that are lent a part of what a bench holds

-- Each contract holds for any frames, and for any clock where the clock plays no part, because the command leaves them alone.

-- Returns how many points there are after a point was to be added: one more if its answer is 0.
abbrev pub points_after : Result Printed Fault → ℕ → ℕ
points_after (Err e) points = points
points_after (Ok x) points = points + cond (eqb x.answer 0) 1 0

unfoldable pub Adds : Result Printed Fault → (points : ℕ) → Address → SequenceNumber → (tables tables' : List ℕ) → Type 0
Adds r points own number tables tables' =
    (frames : List KeptFrame) (clock : ℕ)
    → done_as r (record { tables = tables'; points = points_after r points; frames = frames; clock = clock })
    ≡ add_point (record { tables = tables; points = points; frames = frames; clock = clock }) own number

unfoldable pub Walks : Result Printed Fault → (points clock p q : ℕ) → (tables : List ℕ) → Type 0
Walks r points clock p q tables =
    (frames : List KeptFrame)
    → done_as r (record { tables = tables; points = points; frames = frames; clock = clock })
    ≡ walk_to (record { tables = tables; points = points; frames = frames; clock = clock }) p q
