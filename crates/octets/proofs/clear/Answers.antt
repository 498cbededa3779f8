use Rattle.std.proofs.Common.{rules}
use Rattle.octets.proofs.Laws.{cleared_none, cleared_more, cleared_ended}
use Rattle.octets.proofs.clear.Goals as goal

pub loop-at-init : goal.loop-at-init
loop-at-init c = search (rules, cleared_none)

pub loop-at-preserved : goal.loop-at-preserved
loop-at-preserved c = search (rules, cleared_more)

pub returns : goal.returns
returns c = search (rules, cleared_ended)
