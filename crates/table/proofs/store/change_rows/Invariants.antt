-- `table::store::change_rows` meets its contract. Invariant: the rows before the current one are changed where the step changes them.
use Rattle.std.proofs.Common.{◌≡◌, Bool, length}
use Rattle.layout.specs.declared.row.Row.{Row}
use Rattle.table.specs.Table.{StepsBy, change_below}
use Rattle.table.proofs.store.change_rows.Given as goal

abbrev pub invariant-loop-i : goal.invariant-loop-i
invariant-loop-i g l =
    (length l.table ≡ length l.initial.table)
    × ((p : Row → Bool) (f : Row → Row) → StepsBy (goal.F-post g l.step) p f → l.table ≡ change_below p f l.i l.initial.table)
