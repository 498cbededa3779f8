-- `table::legal::is_row` meets its contract: a row of status 0 is legal only if it is all zero.
use Rattle.table.proofs.Cases.{row_free, row_held}
use Rattle.table.proofs.legal.is_row.Goals as goal

pub returns-then-is_vacant : goal.returns-then-is_vacant
returns-then-is_vacant c = search row_free

pub returns : goal.returns
returns c = search row_held
