-- `learn::steps::row_or_new` meets its contract: it returns the row found, or a new row.
use Rattle.table.proofs.Cases.{found_within}
use Rattle.learn.proofs.Renewals.{row_found, row_made}
use Rattle.learn.proofs.steps.row_or_new.Goals as goal

pub read_row-requires : goal.read_row-requires
read_row-requires c = search found_within

pub returns-in-Some : goal.returns-in-Some
returns-in-Some c = search row_found

pub returns-in-None : goal.returns-in-None
returns-in-None c = search row_made
