-- `receive::faults::of_rreq` meets its contract, by the contracts of the functions that it calls.
use Rattle.rules.specs.Receive.{is_low_ttl_reply}
use Rattle.receive.specs.Checks.{faults_of}
use Rattle.receive.proofs.faults.of_rreq.Goals as goal

pub returns : goal.returns
unfolding faults_of is_low_ttl_reply
returns c = cc
