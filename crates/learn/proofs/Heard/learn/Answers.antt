-- `learn::Heard::learn` meets its contract: it does step 1 alone, or both steps.
use Rattle.learn.proofs.Renewals.{subject_alone, both_learnt}
use Rattle.learn.proofs.Heard.learn.Goals as goal

pub returns-then-ne : goal.returns-then-ne
returns-then-ne c = search both_learnt

pub returns-else-ne : goal.returns-else-ne
returns-else-ne c = search subject_alone
