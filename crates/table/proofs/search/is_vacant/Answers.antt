-- `table::search::is_vacant` meets its contract, by unfolding the definition.
use Rattle.table.specs.Table.{vacant}
use Rattle.table.proofs.search.is_vacant.Goals as goal

pub returns : goal.returns
unfolding vacant
returns c = cc
