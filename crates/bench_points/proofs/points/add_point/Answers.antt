-- `bench_points::points::add_point` meets its contract: the frames and the clock stay.
use Rattle.std.proofs.Common.{ap}
use Rattle.bench_slots.specs.Slots.{kept_in}
use Rattle.bench_rules.specs.Interpreter.{leaving_links}
use Rattle.bench_points.specs.InCode.{Adds}
use Rattle.bench_points.proofs.points.add_point.Goals as goal

pub returns-clause-bench_after : goal.returns-clause-bench_after
unfolding Adds
returns-clause-bench_after c =
    rw (c.points_after-bench.ensures.value)
    (ap (leaving_links c.args.bench.now.links)
    (c.add_table-added.ensures.adds (kept_in c.args.bench.now.slots c.args.bench.now.frames) c.args.bench.now.clock))
