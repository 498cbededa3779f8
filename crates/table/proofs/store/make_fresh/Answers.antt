-- `table::store::make_fresh` meets its contract: the head is written over what stood there, and then the rows are cleared.
use Rattle.table.proofs.Heads.{fresh_written}
use Rattle.table.proofs.store.make_fresh.Goals as goal

pub returns : goal.returns
returns c = search fresh_written
