-- `receive::faults::is_several_or_all` meets its contract, by the contracts of the functions that it calls.
use Rattle.receive.proofs.Faulty.{several_is}
use Rattle.receive.proofs.faults.is_several_or_all.Goals as goal

pub returns : goal.returns
returns c = search several_is
