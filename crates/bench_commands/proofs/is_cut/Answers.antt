-- `bench_commands::is_cut` meets its contract: there is no octet, the length of a command decides, or the command is unknown.
use Rattle.bench_commands.proofs.CommandOctets.{cut_nothing, known_cut, unknown_whole}
use Rattle.bench_commands.proofs.is_cut.Goals as goal

pub returns-then-input-eq0 : goal.returns-then-input-eq0
returns-then-input-eq0 c = search cut_nothing

pub returns-in-Ok : goal.returns-in-Ok
returns-in-Ok c = search known_cut

pub returns-in-Err : goal.returns-in-Err
returns-in-Err c = search unknown_whole
