-- `bench_run::turn::obey_unread` meets its contract: it obeys what is left from where the bench stands.
use Rattle.bench_run.proofs.Turning.{goes_on}
use Rattle.bench_run.proofs.turn.obey_unread.Goals as goal

pub returns-clause-goes_on : goal.returns-clause-goes_on
returns-clause-goes_on g c = search goes_on
