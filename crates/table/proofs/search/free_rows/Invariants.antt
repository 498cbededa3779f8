-- `table::search::free_rows` meets its contract. Invariant: `found` counts the free rows before the current one.
use Rattle.std.proofs.Common.{◌≤◌, ◌≡◌}
use Rattle.table.specs.Places.{count}
use Rattle.table.specs.Table.{vacant}
use Rattle.table.proofs.search.free_rows.Given as goal

abbrev pub invariant-loop-i : goal.invariant-loop-i
invariant-loop-i l = (l.i ≤ l.i-end) × (l.found ≤ l.i) × (l.found ≡ count (vacant l.table) l.i)
