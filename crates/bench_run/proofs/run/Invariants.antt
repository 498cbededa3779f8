-- `bench_run::run` meets its contract: it begins at the start, and each turn finds the bench where its input has led it.
use Rattle.std.proofs.Common.{◌*◌, ◌≤◌, ◌≡◌, length}
use Rattle.bench_run.specs.Turns.{Ready}
use Rattle.bench_run.proofs.run.Given as goal

abbrev pub invariant-loop : goal.invariant-loop
invariant-loop g l = Ready l.cursor l.buffer l.bench × (length l.buffer ≡ 65536) × (l.cursor.offset ≤ 65536 * l.counter)
