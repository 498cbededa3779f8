-- `element::list::has_duplicate` meets its contract: at most one address cannot stand twice, and several are searched by marks.
use Rattle.element.proofs.Marking.{alone_once}
use Rattle.element.proofs.list.has_duplicate.Goals as goal

pub returns-then-entries_in-le1 : goal.returns-then-entries_in-le1
returns-then-entries_in-le1 c = search alone_once
