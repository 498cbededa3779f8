use Rattle.std.proofs.Common.{rules}
use Rattle.rules.proofs.AnyOf.{any_start, any_ended}
use Rattle.receive.proofs.Faulty.{mismarked_found, mismarked_more}
use Rattle.receive.proofs.faults.has_mismarked.Goals as goal

pub loop-i-init : goal.loop-i-init
loop-i-init c = search (rules, any_start)

pub returns-then-is_mismarked : goal.returns-then-is_mismarked
returns-then-is_mismarked c = search mismarked_found

pub loop-i-preserved : goal.loop-i-preserved
loop-i-preserved c = search (rules, mismarked_more)

pub returns : goal.returns
returns c = search any_ended
