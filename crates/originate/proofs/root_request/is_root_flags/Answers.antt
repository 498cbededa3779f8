-- `originate::root_request::is_root_flags` meets its contract, by unfolding the definition.
use Rattle.rules.specs.Originate.{is_root_flags}
use Rattle.originate.proofs.root_request.is_root_flags.Goals as goal

pub returns : goal.returns
unfolding is_root_flags
returns c = cc
