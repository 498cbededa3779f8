-- `bench_core::traffic::ask_for` meets its contract: the ask is a call of the point.
use Rattle.std.proofs.Common.{rules}
use Rattle.bench_core.proofs.Emitting.{item_octets}
use Rattle.bench_core.proofs.traffic.ask_for.Goals as goal

pub make_call-requires : goal.make_call-requires
make_call-requires c = (search rules, search item_octets)
