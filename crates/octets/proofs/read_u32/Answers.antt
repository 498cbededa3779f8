-- `octets::read_u32` meets its contract: the library's number of the octets is the number in them.
use Rattle.octets.proofs.Laws.{read_whole}
use Rattle.octets.proofs.read_u32.Goals as goal

pub returns : goal.returns
returns c = search (read_whole 3)
