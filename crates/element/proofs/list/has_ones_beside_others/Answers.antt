-- `element::list::has_ones_beside_others` meets its contract: both parts of its test are those of the definition.
use Rattle.element.proofs.Scans.{ones_beside}
use Rattle.element.proofs.list.has_ones_beside_others.Goals as goal

pub returns : goal.returns
returns c = search ones_beside
