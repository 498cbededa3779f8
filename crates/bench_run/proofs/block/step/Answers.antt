-- `bench_run::block::step` meets its contract: a line leaves the octets after the command, and a fault ends the bench.
use Rattle.bench_run.proofs.Stepping.{line_fits, line_course, fault_course}
use Rattle.bench_run.proofs.block.step.Goals as goal

pub returns-in-Ok-clause-text_after : goal.returns-in-Ok-clause-text_after
returns-in-Ok-clause-text_after c =
    search (line_course c.args.bench.now c.args.used c.args.block.now c.obey_first.result c.obey_first.new.bench c.obey_first.ensures.bench_after
    c.in-Ok.line c.in-Ok.is c.in-Ok.ensures.command_is)

pub returns-in-Ok-clause-used_bound : goal.returns-in-Ok-clause-used_bound
returns-in-Ok-clause-used_bound c =
    search (line_fits c.args.bench.now c.args.used c.args.block.now c.obey_first.result c.obey_first.new.bench c.obey_first.ensures.bench_after
    c.in-Ok.line c.in-Ok.is c.in-Ok.ensures.command_is)

pub returns-in-Err-clause-text_after : goal.returns-in-Err-clause-text_after
returns-in-Err-clause-text_after c = search fault_course
