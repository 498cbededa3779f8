-- `originate::root_request::send` meets its contract: it writes the head after the step, and one frame with one destination.
use Rattle.originate.proofs.Originated.{root_exit}
use Rattle.originate.proofs.root_request.send.Goals as goal

pub returns : goal.returns
returns c = search root_exit
