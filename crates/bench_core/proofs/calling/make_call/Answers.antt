-- `bench_core::calling::make_call` meets its contract: there is no point p, or the bench keeps what the call leaves.
use Rattle.std.proofs.Common.{refl}
use Rattle.bench_points.proofs.Lending.{lent_table}
use Rattle.bench_core.proofs.Settling.{holds_frames, tables_stay, call_done}
use Rattle.bench_core.proofs.calling.make_call.Goals as goal

pub invariant_of-bench-clause-table_octets : goal.invariant_of-bench-clause-table_octets
invariant_of-bench-clause-table_octets c =
    tables_stay c.args.bench.now c.in_ok-i.i _ c.make_with-outcome.new.table _ _ _ _ _ c.make_with-outcome.ensures c.requires
    (lent_table c.args.bench.now.tables c.in_ok-i.i)

pub settle-requires-clause-holds_frames : goal.settle-requires-clause-holds_frames
settle-requires-clause-holds_frames c =
    holds_frames c.args.bench.now _ _ _ _ _ _ _ c.make_with-outcome.ensures c.requires refl refl c.in_ok-i.i
    (lent_table c.args.bench.now.tables c.in_ok-i.i)

pub returns-clause-bench_after : goal.returns-clause-bench_after
returns-clause-bench_after c = search (call_done, lent_table)
