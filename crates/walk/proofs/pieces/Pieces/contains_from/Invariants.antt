-- `walk::pieces::Pieces::contains_from` meets its contract. Invariant: the points from i on give the answer for all points from
-- `from` on.
use Rattle.std.proofs.Common.{◌-◌, ◌≡◌}
use Rattle.element.specs.Entries.{each}
use Rattle.element.specs.Lists.{contains}
use Rattle.walk.specs.Pieces.{point_at}
use Rattle.walk.proofs.pieces.Pieces.contains_from.Given as goal

abbrev pub invariant-loop-i : goal.invariant-loop-i
invariant-loop-i l =
    contains (each (point_at l.self.octets.now l.self.long) l.i (l.self.count - l.i)) l.address
    ≡ contains (each (point_at l.self.octets.now l.self.long) l.from (l.self.count - l.from)) l.address
