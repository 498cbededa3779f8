-- `bench_slots::sender_of` meets its contract: it returns the first octet of the slot.
use Rattle.bench_slots.proofs.Slots.{sender_read}
use Rattle.bench_slots.proofs.sender_of.Goals as goal

pub returns : goal.returns
returns c = search sender_read
