-- `bench_core::settle::settle` meets its contract, by cases of the outcome.
use Rattle.bench_core.proofs.Settling.{accepted_holds}
use Rattle.bench_core.proofs.settle.settle.Goals as goal

pub keep_emitted-requires-clause-holds : goal.keep_emitted-requires-clause-holds
keep_emitted-requires-clause-holds c = search accepted_holds
