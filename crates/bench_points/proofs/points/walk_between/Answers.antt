-- `bench_points::points::walk_between` meets its contract: an index is no point, or the walk is done.
use Rattle.bench_points.proofs.Walking.{start_unknown, end_unknown, walked}
use Rattle.bench_points.proofs.points.walk_between.Goals as goal

pub returns-then-points-p : goal.returns-then-points-p
returns-then-points-p c = search start_unknown

pub returns-then-points-q : goal.returns-then-points-q
returns-then-points-q c = search end_unknown

pub returns : goal.returns
returns c = search walked
