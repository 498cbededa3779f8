use Rattle.std.proofs.Common.{rules}
use Rattle.walk.proofs.Ways.{way_start, way_arrived, way_stopped, way_more, way_ended}
use Rattle.walk.proofs.way.follow.Goals as goal

pub loop-init : goal.loop-init
loop-init c = (search way_start, search rules)

pub returns-then-eq : goal.returns-then-eq
returns-then-eq c = search way_arrived

pub returns-in_default : goal.returns-in_default
returns-in_default c = search way_stopped

pub overflow_add-hops : goal.overflow_add-hops
overflow_add-hops c = let few = c.args.pieces.now.few in search rules

pub loop-preserved : goal.loop-preserved
loop-preserved c = (search way_more, search rules)

pub returns : goal.returns
returns c = search way_ended
