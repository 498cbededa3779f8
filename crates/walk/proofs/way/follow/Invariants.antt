-- `walk::way::follow` meets its contract. Invariant: what is left of the way ends as the whole does, and the hops walked are as
-- many as the turns of the loop.
use Rattle.std.proofs.Common.{◌-◌, ◌≡◌}
use Rattle.rules.specs.Walk.{follow, tables_in}
use Rattle.walk.specs.OnTheWay.{resumed}
use Rattle.walk.proofs.way.follow.Given as goal

abbrev pub invariant-loop : goal.invariant-loop
invariant-loop l =
    (resumed (tables_in l.pieces.octets.now l.pieces.count) l.clock l.destination (l.pieces.count - l.counter) l.at l.hops l.before
    ≡ follow (tables_in l.pieces.octets.now l.pieces.count) l.clock l.destination l.pieces.count l.initial.at 0)
    × (l.hops ≡ l.counter)
