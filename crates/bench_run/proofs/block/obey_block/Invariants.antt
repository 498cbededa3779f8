-- `bench_run::block::obey_block` meets its contract. Each command leaves less of the block. Invariant: the course so far and
-- what is left make the whole.
use Rattle.std.proofs.Common.{◌-◌, ◌≤◌, [], length}
use Rattle.bench_rules.specs.Run.{going, obey_until}
use Rattle.bench_run.specs.Blocks.{standing, pauses_in}
use Rattle.bench_run.proofs.Looping.{Remaining}
use Rattle.bench_run.proofs.block.obey_block.Given as goal

abbrev pub invariant-loop-used : goal.invariant-loop-used
invariant-loop-used l =
    Remaining l.last l.offset l.block
    (obey_until (pauses_in l.last) (length l.block) (going [] (standing l.initial.bench l.offset)) l.block) l.used l.bench l.text
    × (l.used ≤ length l.block)

abbrev pub decreases-loop-used : goal.decreases-loop-used
decreases-loop-used l = length l.block - l.used
