-- `table::search::is_held_for` meets its contract: the destination decides first, and then the status.
use Rattle.table.proofs.Cases.{holds_not, holds_if}
use Rattle.table.proofs.search.is_held_for.Goals as goal

pub returns-then-eq : goal.returns-then-eq
returns-then-eq c = search holds_if

pub returns-else-eq : goal.returns-else-eq
returns-else-eq c = search holds_not
