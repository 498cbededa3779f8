-- `reading::list_start` meets its contract: the list starts at 2 plus the Length of an element without entries.
use Rattle.reading.proofs.Cases.{starts_there}
use Rattle.reading.proofs.list_start.Goals as goal

pub returns : goal.returns
returns c = search starts_there
