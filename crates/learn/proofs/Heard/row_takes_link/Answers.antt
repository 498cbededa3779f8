-- `learn::Heard::row_takes_link` meets its contract: each return is a case of `row_takes_link`.
use Rattle.learn.proofs.Renewals.{link_better, link_as_good}
use Rattle.learn.proofs.Heard.row_takes_link.Goals as goal

pub returns-then-is_active : goal.returns-then-is_active
returns-then-is_active c = search link_better

pub returns : goal.returns
returns c = search link_as_good
