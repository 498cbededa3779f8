-- `ask::send` meets its contract: it writes the head after the step, and one frame with the destinations.
use Rattle.ask.proofs.Asked.{asked_exit}
use Rattle.ask.proofs.send.Goals as goal

pub returns : goal.returns
returns c = search asked_exit
