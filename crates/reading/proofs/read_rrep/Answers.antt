-- `reading::read_rrep` meets its contract: it reads the fields one by one.
use Rattle.octets.specs.LittleEndian.{fields_at}
use Rattle.reading.proofs.read_rrep.Goals as goal

pub returns : goal.returns
unfolding fields_at
returns c = cc
