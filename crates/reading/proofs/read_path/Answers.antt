-- `reading::read_path` meets its contract: it reads the fields one by one.
use Rattle.reading.proofs.Cases.{path_read}
use Rattle.reading.proofs.read_path.Goals as goal

pub returns : goal.returns
returns c = search path_read
