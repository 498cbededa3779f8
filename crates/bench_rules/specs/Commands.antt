-- Defines the eight commands by their operands. PROTOCOL, 'Bench'. An index of no point or frame, a 17th point, a 129th frame and
-- a clock above 2^48 - 1 are faults.
use Rattle.refusals.specs.Numbers.{number_of}
use Rattle.std.specs.Prelude.{ℕ, ◌+◌, ◌*◌, ◌&&◌, cond, List, ◌∷◌, take, Err, Ok, Option, None, Some, slice_get}
use Rattle.octets.specs.LittleEndian.{number_octets}
use Rattle.counters.specs.declared.SequenceNumber.{SequenceNumber}
use Rattle.layout.specs.declared.address.Address.{Address}
use Rattle.layout.specs.Address.{address_of}
use Rattle.layout.specs.Row.{max_clock}
use Rattle.rules.specs.Decision.{Decision, ◌above◌, ◌below◌}
use Rattle.rules.specs.declared.Arrival.{Arrival}
use Rattle.rules.specs.Calls.{receives, makes, asks, announces, breaks}
use Rattle.rules.specs.Fresh.{make_fresh}
use Rattle.rules.specs.Walk.{Walked, table_at, walked_at_exit, walk}
use Rattle.bench_links.specs.Links.{metric_of, linked}
use Rattle.bench_rules.specs.Bench.{
  KeptFrame,
  Bench,
  Done,
  fault,
  line,
  WithLinks,
  table_of_point,
  address_of_point,
  is_point,
  with_table_at,
  called,
}

-- 1 point. If it is refused, it is not added.
abbrev pub added : Bench → Decision (List ℕ) → Done
added b (Err r) = line (number_of r) 0 b
added b (Ok u) =
    line 0 0
    (record {
      tables = with_table_at b.tables b.points u;
      points = b.points + 1;
      frames = b.frames;
      clock = b.clock;
    })

unfoldable pub add_point : Bench → Address → SequenceNumber → Done
add_point b own number = cond (b.points below 16) (added b (make_fresh (table_of_point b b.points) own number)) fault

-- 2 advance clock
unfoldable pub advance : Bench → ℕ → Done
advance b by =
    cond ((b.clock + by) above max_clock) fault
    (line 0 0
    (record {
      tables = b.tables;
      points = b.points;
      frames = b.frames;
      clock = b.clock + by;
    }))

-- 3 link. The metric is for both ways, and 0 is no link.
unfoldable pub link : Bench → List (List ℕ) → ℕ → ℕ → ℕ → WithLinks
link b links p q metric =
    cond (is_point b p && is_point b q) (record { done = line 0 0 b; links = linked links p q metric })
    (record { done = fault; links = links })

-- 4 ask, for one destination. Its item is flags and address.
unfoldable pub ask_for : Bench → ℕ → (flags : ℕ) → Address → (lifetime : ℕ) → Done
ask_for b p flags destination lifetime = called b p (makes (asks lifetime (flags ∷ number_octets 6 destination.0)))

-- 5 announce, flags 0
unfoldable pub announce_self : Bench → ℕ → (lifetime : ℕ) → Done
announce_self b p lifetime = called b p (makes (announces 0 lifetime))

-- 6 deliver a frame. It arrives from its sender, over the link between the two points, whatever its receiver address is.
abbrev pub arrival_from : (tables : List ℕ) → List (List ℕ) → (clock sender p : ℕ) → Arrival
arrival_from tables links clock sender p =
    record {
      clock = clock;
      transmitter = address_of (table_at tables 544 sender);
      link = record { 0 = metric_of links sender p };
    }

abbrev pub handed_over : Bench → List (List ℕ) → ℕ → Option KeptFrame → Done
handed_over b links p None = fault
handed_over b links p (Some f) = called b p (receives (arrival_from b.tables links b.clock f.sender p) f.element)

unfoldable pub deliver : Bench → List (List ℕ) → (k p : ℕ) → Done
deliver b links k p = handed_over b links p (slice_get b.frames k)

-- 7 break. The neighbour must be a point.
unfoldable pub break_off : Bench → (p q : ℕ) → Done
break_off b p q = cond (is_point b q) (called b p (makes (breaks b.clock (address_of_point b q)))) fault

-- 8 walk over the points, from p to q.
abbrev pub walked_line : Bench → Walked → Done
walked_line b w = line w.answer w.hops b

unfoldable pub walk_to : Bench → (p q : ℕ) → Done
walk_to b p q =
    cond (is_point b p && is_point b q)
    (walked_line b
    (walked_at_exit (walk (take (544 * b.points) b.tables) b.points b.clock (address_of_point b p) (address_of_point b q))))
    fault
