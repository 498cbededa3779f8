-- `calls::Emitted::nothing` meets its contract: an empty list of frames has no octets.
use Rattle.rules.proofs.FrameOctets.{no_frame}
use Rattle.calls.proofs.Emitted.nothing.Goals as goal

pub returns : goal.returns
returns c = rw no_frame
