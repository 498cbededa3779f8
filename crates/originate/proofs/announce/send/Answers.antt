-- `originate::announce::send` meets its contract: it writes the head after the step, and one frame.
use Rattle.originate.proofs.Originated.{announced_exit}
use Rattle.originate.proofs.announce.send.Goals as goal

pub returns : goal.returns
returns c = search announced_exit
