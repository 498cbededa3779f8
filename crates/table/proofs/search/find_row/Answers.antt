-- `table::search::find_row` meets its contract, by the contracts of the functions that it calls.
use Rattle.table.specs.Table.{find_row}
use Rattle.table.proofs.search.find_row.Goals as goal

pub returns : goal.returns
unfolding find_row
returns c = cc
