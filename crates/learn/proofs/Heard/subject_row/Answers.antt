-- `learn::Heard::subject_row` meets its contract, by the contracts of the functions that it calls.
use Rattle.learn.proofs.Renewals.{subject_renewed}
use Rattle.learn.proofs.Heard.subject_row.Goals as goal

pub returns : goal.returns
returns c = search subject_renewed
