-- `walk::way::stopped` meets its contract, by whether the address is a point's.
use Rattle.walk.proofs.Ways.{stopped_on, stopped_off}
use Rattle.walk.proofs.way.stopped.Goals as goal

pub returns-then-is_point : goal.returns-then-is_point
returns-then-is_point c = search stopped_on

pub returns : goal.returns
returns c = search stopped_off
