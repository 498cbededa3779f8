-- `bench_core::settle::keep_emitted` meets its contract: the frames are kept, or they are too many.
use Rattle.std.proofs.Common.{rules}
use Rattle.bench_core.proofs.Settling.{few_kept, sent_after}
use Rattle.bench_core.proofs.settle.keep_emitted.Goals as goal

pub invariant_of-bench-2-clause-sent : goal.invariant_of-bench-2-clause-sent
invariant_of-bench-2-clause-sent c =
    sent_after c.args.bench.now c.args.sender c.args.n c.args.output.now c.keep_emitted.new.slots c.keep_emitted.ensures.slots_after
    (search few_kept) (search rules) c.requires.is_point
