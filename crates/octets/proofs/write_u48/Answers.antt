-- `octets::write_u48` meets its contract: the two parts make the number.
use Rattle.octets.proofs.Laws.{written_6}
use Rattle.octets.proofs.write_u48.Goals as goal

pub returns : goal.returns
returns c = search written_6
