-- `octets::write_u64` meets its contract: the library's octets of the number are those of the definition.
use Rattle.octets.proofs.Laws.{written}
use Rattle.octets.proofs.write_u64.Goals as goal

pub returns : goal.returns
returns c = search written
