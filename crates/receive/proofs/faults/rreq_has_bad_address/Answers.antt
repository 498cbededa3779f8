-- `receive::faults::rreq_has_bad_address` meets its contract, by the contracts of the functions that it calls.
use Rattle.receive.proofs.Faulty.{bad_address_is}
use Rattle.receive.proofs.faults.rreq_has_bad_address.Goals as goal

pub returns : goal.returns
returns c = search bad_address_is
