-- `reading::read_rerr` meets its contract: it reads the one field.
use Rattle.octets.specs.LittleEndian.{fields_at}
use Rattle.reading.proofs.read_rerr.Goals as goal

pub returns : goal.returns
unfolding fields_at
returns c = cc
