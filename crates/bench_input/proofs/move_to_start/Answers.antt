-- `bench_input::move_to_start` meets its contract: it copies the unread octets to the start.
use Rattle.bench_input.proofs.Refilling.{moved_to_start}
use Rattle.bench_input.proofs.move_to_start.Goals as goal

pub returns-clause-buffer_after : goal.returns-clause-buffer_after
returns-clause-buffer_after c = search moved_to_start
