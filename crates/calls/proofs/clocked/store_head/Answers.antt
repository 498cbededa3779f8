-- `calls::clocked::store_head` meets its contract, by the contracts of the functions that it calls.
use Rattle.calls.proofs.Neighbours.{head_stored}
use Rattle.calls.proofs.clocked.store_head.Goals as goal

pub returns : goal.returns
returns c = search head_stored
