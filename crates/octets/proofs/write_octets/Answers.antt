use Rattle.std.proofs.Common.{arith, rules}
use Rattle.octets.specs.LittleEndian.{Octets}
use Rattle.octets.proofs.OctetLists.{overwrite_start, overwrite_more, overwrite_ended}
use Rattle.octets.proofs.write_octets.Goals as goal

pub loop-j-init : goal.loop-j-init
loop-j-init c = search (rules, overwrite_start)

pub loop-j-preserved : goal.loop-j-preserved
loop-j-preserved c = search (rules, overwrite_more)

pub returns-clause-octets : goal.returns-clause-octets
unfolding Octets
returns-clause-octets c = λ k. omega (arith, c.type_inv.p k)

pub returns-clause-s_after : goal.returns-clause-s_after
returns-clause-s_after c = search overwrite_ended
