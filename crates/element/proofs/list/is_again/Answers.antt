-- `element::list::is_again` meets its contract: if the mark was seen, the search decides.
use Rattle.element.proofs.list.is_again.Goals as goal

pub returns-then-seen : goal.returns-then-seen
returns-then-seen c = cc
