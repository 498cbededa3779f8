-- `answering::answering_row` meets its contract: it returns the row that answers, or None.
use Rattle.table.proofs.Cases.{found_within}
use Rattle.answering.proofs.AnsweringRows.{nobody_do}
use Rattle.answering.proofs.answering_row.Goals as goal

pub returns-then-has_do : goal.returns-then-has_do
returns-then-has_do c = search nobody_do

pub read_row-r-requires : goal.read_row-r-requires
read_row-r-requires c = let at_i = c.in_ok-i.was in search found_within
