-- `reading::list_part` meets its contract: it returns the octets from the start of the list on, if there are any.
use Rattle.reading.proofs.Cases.{list_left}
use Rattle.reading.proofs.list_part.Goals as goal

pub returns : goal.returns
returns c = search list_left
