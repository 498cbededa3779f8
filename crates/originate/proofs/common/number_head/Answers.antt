-- `originate::common::number_head` meets its contract, by unfolding the definition.
use Rattle.rules.specs.Originate.{numbered_head}
use Rattle.originate.proofs.common.number_head.Goals as goal

pub returns : goal.returns
unfolding numbered_head
returns c = cc
