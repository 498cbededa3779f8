-- `bench_core::traffic::deliver_frame` meets its contract: there is no frame k, no point p, or the point receives the frame.
use Rattle.std.proofs.Common.{arith}
use Rattle.bench_rules.specs.Bench.{called}
use Rattle.bench_rules.specs.Commands.{deliver}
use Rattle.bench_slots.proofs.Keeping.{each_beyond, frame_found}
use Rattle.bench_core.proofs.Emitting.{sender_point, receiver_point, receive_fits}
use Rattle.bench_core.proofs.traffic.deliver_frame.Goals as goal

pub returns-in_err-slot-clause-bench_after : goal.returns-in_err-slot-clause-bench_after
unfolding deliver
returns-in_err-slot-clause-bench_after c = grind (arith, each_beyond)

pub returns-in_err-receiver-clause-bench_after : goal.returns-in_err-receiver-clause-bench_after
unfolding deliver called
returns-in_err-receiver-clause-bench_after c = grind (arith, frame_found)

pub arrival_from-arrival-requires : goal.arrival_from-arrival-requires
arrival_from-arrival-requires c = (
  search (sender_point c.args.bench.now c.in_ok-slot.slot c.args.k c.in_ok-slot.ensures),
  receiver_point c.args.bench.now c.in_ok-receiver.receiver c.args.p c.in_ok-receiver.ensures,
)

pub make_call-requires : goal.make_call-requires
make_call-requires c = search (receive_fits c.args.bench.now c.in_ok-slot.slot c.args.k c.in_ok-slot.ensures)

pub returns-clause-bench_after : goal.returns-clause-bench_after
unfolding deliver called
returns-clause-bench_after c = grind (arith, frame_found)
