-- `bench_core::traffic::item_of` meets its contract: the item is the flags, and after them the six octets of the address.
use Rattle.bench_core.proofs.Emitting.{item_is}
use Rattle.bench_core.proofs.traffic.item_of.Goals as goal

pub returns : goal.returns
returns c = search item_is
