-- `writing::start_frame` meets its contract: it writes the receiver address, and then the numbers after it.
use Rattle.writing.proofs.Written.{frame_started}
use Rattle.writing.proofs.start_frame.Goals as goal

pub returns : goal.returns
returns g c = search frame_started
