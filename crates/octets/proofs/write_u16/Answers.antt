-- `octets::write_u16` meets its contract: the library's octets of the number are those of the definition.
use Rattle.octets.proofs.Laws.{written}
use Rattle.octets.proofs.write_u16.Goals as goal

pub returns : goal.returns
returns c = search written
