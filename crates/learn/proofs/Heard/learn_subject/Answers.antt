-- `learn::Heard::learn_subject` meets its contract, by the contracts of the functions that it calls.
use Rattle.learn.proofs.Renewals.{subject_place, subject_stored}
use Rattle.learn.proofs.Heard.learn_subject.Goals as goal

pub put_row-requires : goal.put_row-requires
put_row-requires c = search subject_place

pub returns : goal.returns
returns c = search subject_stored
