-- `originate::common::own_path` meets its contract, by unfolding the definition.
use Rattle.rules.specs.Originate.{own_path}
use Rattle.originate.proofs.common.own_path.Goals as goal

pub returns : goal.returns
unfolding own_path
returns c = cc
