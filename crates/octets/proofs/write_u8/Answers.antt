-- `octets::write_u8` meets its contract: an octet is a number of one octet.
use Rattle.std.proofs.Common.{rules}
use Rattle.octets.proofs.Laws.{written_1}
use Rattle.octets.proofs.write_u8.Goals as goal

pub returns : goal.returns
returns c = search (rules, written_1)
