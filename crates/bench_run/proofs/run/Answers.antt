use Rattle.std.proofs.Common.{rules}
use Rattle.bench_run.proofs.Turning.{first_ready, first_offset}
use Rattle.bench_run.proofs.run.Goals as goal

pub loop-init : goal.loop-init
loop-init g c = (search first_ready, search rules, search (rules, first_offset))
