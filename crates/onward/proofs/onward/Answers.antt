-- `onward::onward` meets its contract, by the contracts of the functions that it calls.
use Rattle.onward.proofs.Going.{farther}
use Rattle.onward.proofs.onward.Goals as goal

pub returns : goal.returns
returns c = search farther
