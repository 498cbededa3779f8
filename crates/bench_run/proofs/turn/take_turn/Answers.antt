-- `bench_run::turn::take_turn` meets its contract: it obeys what has been read from where the bench stands.
use Rattle.bench_run.proofs.Turning.{refilled, read_and_turned}
use Rattle.bench_run.proofs.turn.take_turn.Goals as goal

pub obey_unread-requires-clause-ready : goal.obey_unread-requires-clause-ready
obey_unread-requires-clause-ready g c = search refilled

pub returns-clause-read_and_turned : goal.returns-clause-read_and_turned
returns-clause-read_and_turned g c = search read_and_turned
