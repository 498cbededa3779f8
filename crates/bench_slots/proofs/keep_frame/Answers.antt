-- `bench_slots::keep_frame` meets its contract: it writes the sender, and the frame next to it.
use Rattle.bench_slots.proofs.Slots.{frame_kept}
use Rattle.bench_slots.proofs.keep_frame.Goals as goal

pub returns : goal.returns
returns c = search frame_kept
