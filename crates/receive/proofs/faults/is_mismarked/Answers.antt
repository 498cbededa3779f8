-- `receive::faults::is_mismarked` meets its contract, by the contracts of the functions that it calls.
use Rattle.receive.proofs.faults.is_mismarked.Goals as goal

pub returns : goal.returns
returns c = cc
