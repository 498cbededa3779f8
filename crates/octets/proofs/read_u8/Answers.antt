-- `octets::read_u8` meets its contract.
use Rattle.std.proofs.Common.{rules}
use Rattle.octets.specs.LittleEndian.{number_at}
use Rattle.octets.proofs.read_u8.Goals as goal

pub returns : goal.returns
unfolding number_at
returns c = search rules
