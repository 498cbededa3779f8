-- `onward::kept::write_kept` meets its contract: it keeps of each destination what `kept_of` returns.
use Rattle.std.proofs.Common.{rules}
use Rattle.onward.specs.Kept.{kept_of, kept_among}
use Rattle.onward.proofs.kept.write_kept.Goals as goal

pub returns-clause-value : goal.returns-clause-value
unfolding kept_among
returns-clause-value c = c.write_kept.ensures.value (kept_of c.args.table.now c.args.clock) (λ q o h. search rules)

pub returns-clause-output_after : goal.returns-clause-output_after
unfolding kept_among
returns-clause-output_after c = c.write_kept.ensures.out_after (kept_of c.args.table.now c.args.clock) (λ q o h. search rules)
