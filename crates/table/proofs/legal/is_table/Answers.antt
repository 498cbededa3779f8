-- `table::legal::is_table` meets its contract: the head decides first, and then the rows.
use borrow.Author.Tests.{not-true, not-false}
use Rattle.table.proofs.Cases.{bad_head, table_is}
use Rattle.table.proofs.legal.is_table.Goals as goal

pub returns-then-not-is_ok : goal.returns-then-not-is_ok
returns-then-not-is_ok c = search (bad_head, not-true)

pub returns : goal.returns
returns c = search (table_is, not-false)
