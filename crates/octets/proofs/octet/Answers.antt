-- `octets::octet` meets its contract: the octet at every place is below 256.
use Rattle.std.proofs.Common.{arith}
use Rattle.octets.specs.LittleEndian.{Octets}
use Rattle.octets.proofs.octet.Goals as goal

pub returns-clause-octets : goal.returns-clause-octets
unfolding Octets
returns-clause-octets c = λ k. omega (arith, c.type_inv.s k)
