-- `table::legal::is_sized` meets its contract: it does check 1 without a subtraction.
use Rattle.table.proofs.Cases.{size_is}
use Rattle.table.proofs.legal.is_sized.Goals as goal

pub returns : goal.returns
returns c = search size_is
