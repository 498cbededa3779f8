-- `table::search::free_rows` meets its contract: each row is counted if it is free.
use Rattle.std.proofs.Common.{rules}
use Rattle.table.specs.Table.{free_rows}
use Rattle.table.proofs.Places.{counted_le, count_more, count_ended}
use Rattle.table.proofs.search.free_rows.Goals as goal

pub loop-i-preserved : goal.loop-i-preserved
loop-i-preserved c = (search rules, search counted_le, search count_more)

pub returns : goal.returns
unfolding free_rows
returns c = search (count_ended, rules)
