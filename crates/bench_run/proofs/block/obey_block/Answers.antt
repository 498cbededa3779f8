use Rattle.std.proofs.Common.{rules}
use Rattle.bench_run.proofs.Stepping.{to_the_end}
use Rattle.bench_run.proofs.Looping.{cut_pauses, room_pauses, one_obeyed, fault_ends, block_over}
use Rattle.bench_run.proofs.block.obey_block.Goals as goal

pub returns-then-last-is_cut-clause-text_after : goal.returns-then-last-is_cut-clause-text_after
returns-then-last-is_cut-clause-text_after c = search (cut_pauses, to_the_end)

pub returns-then-room-lt-LONGEST_LINE-clause-text_after : goal.returns-then-room-lt-LONGEST_LINE-clause-text_after
returns-then-room-lt-LONGEST_LINE-clause-text_after c = search (room_pauses, to_the_end)

pub returns-in_err-used-clause-text_after : goal.returns-in_err-used-clause-text_after
returns-in_err-used-clause-text_after c =
    search (fault_ends c.args.last c.args.offset c.args.block.now _ c.loop-used.used c.loop-used.bench c.loop-used.text c.loop-used.invariant.0, to_the_end)

pub loop-used-preserved : goal.loop-used-preserved
loop-used-preserved c = (search (one_obeyed, to_the_end), search rules)

pub returns-clause-text_after : goal.returns-clause-text_after
returns-clause-text_after c = search block_over
