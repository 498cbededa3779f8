-- `table::legal::rows_pass_by` meets its contract. Invariant: every row before the current one passes, and its destination is
-- marked.
use Rattle.std.proofs.Common.{◌+◌, ◌≡◌, true, length}
use Rattle.table.specs.Places.{every}
use Rattle.table.specs.Table.{passes}
use Rattle.layout.proofs.Marks.{Marked}
use Rattle.table.proofs.MarkedRows.{destination_in}
use Rattle.table.proofs.legal.rows_pass_by.Given as goal

abbrev pub invariant-loop-i : goal.invariant-loop-i
invariant-loop-i l =
    (length l.seen ≡ l.last + 1) × Marked (destination_in l.table) l.seen l.last 0 l.i
    × (every (passes l.table l.own) l.i ≡ true)
