-- `answering::answers_for` meets its contract: with DO = 0 an active row of known number answers by its number.
use Rattle.answering.proofs.AnsweringRows.{answers_by_number}
use Rattle.answering.proofs.answers_for.Goals as goal

pub returns : goal.returns
returns c = search answers_by_number
