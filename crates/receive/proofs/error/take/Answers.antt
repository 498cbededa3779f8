-- `receive::error::take` meets its contract, by the RERR that it sends, the rows and the head.
use Rattle.receive.proofs.Taken.{rerr_exit}
use Rattle.receive.proofs.error.take.Goals as goal

pub returns : goal.returns
returns c = search rerr_exit
