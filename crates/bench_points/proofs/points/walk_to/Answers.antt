-- `bench_points::points::walk_to` meets its contract: the walk leaves the frames alone.
use Rattle.bench_slots.specs.Slots.{kept_in}
use Rattle.bench_points.specs.InCode.{Walks}
use Rattle.bench_points.proofs.points.walk_to.Goals as goal

pub returns : goal.returns
unfolding Walks
returns c = c.walk_between.ensures (kept_in c.args.bench.now.slots c.args.bench.now.frames)
