-- `octets::read_u48` meets its contract: the number is read in two parts.
use Rattle.octets.proofs.Laws.{read_6}
use Rattle.octets.proofs.read_u48.Goals as goal

pub returns : goal.returns
returns c = search read_6
