-- `bench_points::points::add_table` meets its contract: the point is a 17th one, is refused, or is added.
use Rattle.std.proofs.Common.{arith}
use Rattle.octets.specs.LittleEndian.{Octets}
use Rattle.bench_points.proofs.Adding.{seventeenth, table_added}
use Rattle.bench_points.proofs.points.add_table.Goals as goal

pub returns-then-points-ge-MOST_POINTS-clause-adds : goal.returns-then-points-ge-MOST_POINTS-clause-adds
returns-then-points-ge-MOST_POINTS-clause-adds c = search seventeenth

pub returns-clause-adds : goal.returns-clause-adds
returns-clause-adds c = search table_added

pub returns-then-points-ge-MOST_POINTS-clause-octets : goal.returns-then-points-ge-MOST_POINTS-clause-octets
unfolding Octets
returns-then-points-ge-MOST_POINTS-clause-octets c =
    λ i. omega (arith, c.type_inv.tables i)

pub returns-clause-octets : goal.returns-clause-octets
unfolding Octets
returns-clause-octets c = λ i. omega (arith, c.type_inv.tables i)
