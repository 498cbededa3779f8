-- `receive::faults::is_unicast_to_several` meets its contract, by the contracts of the functions that it calls.
use Rattle.receive.proofs.Faulty.{not_unicast, is_unicast}
use Rattle.receive.proofs.faults.is_unicast_to_several.Goals as goal

pub returns-then-not-is_unicast : goal.returns-then-not-is_unicast
returns-then-not-is_unicast c = search not_unicast

pub returns : goal.returns
returns c = search is_unicast
