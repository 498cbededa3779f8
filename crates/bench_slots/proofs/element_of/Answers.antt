-- `bench_slots::element_of` meets its contract: it returns ID, Length, and the octets that Length counts.
use Rattle.bench_slots.proofs.Slots.{element_read}
use Rattle.bench_slots.proofs.element_of.Goals as goal

pub returns : goal.returns
returns c = search element_read
