use Rattle.std.proofs.Common.{rules}
use Rattle.table.proofs.Changes.{below_start, below_more, below_ended, below_all, step_writes, step_leaves}
use Rattle.table.proofs.store.change_rows.Goals as goal
use Rattle.table.proofs.store.change_rows.Goals.{in-Some, in_default}

pub loop-i-init : goal.loop-i-init
loop-i-init g c = (search rules, λ p f s. below_start p f c.args.table.now)

pub loop-i-preserved : goal.loop-i-preserved
loop-i-preserved g c = (
  search rules,
  λ p f s.
      let stepped = s _ _ c.step.ensures in
      below_more p f c.args.table.now c.loop-i.table c.loop-i.i (c.loop-i.invariant.1 p f s) c.match-step.table
      (elim c.match-step.branch [
        | in-Some w ↦
            rw w.table-is
            (step_writes p f _ _ _ c.read_row.ensures _ stepped _ w.in-Some.is _ w.write_row.ensures)
        | in_default w ↦ step_leaves p f _ _ _ c.read_row.ensures _ stepped w.in_default.is _ w.table-is
      ]),
)

pub returns : goal.returns
returns g c = λ p f s.
    let done = c.loop-i.invariant.1 p f s in
    let end = below_ended p f c.args.table.now c.loop-i.table c.loop-i.i done c.rows_of-i-end.result (search rules) (search rules) in
    below_all p f c.args.table.now c.loop-i.table c.rows_of-i-end.result end c.rows_of-i-end.ensures
