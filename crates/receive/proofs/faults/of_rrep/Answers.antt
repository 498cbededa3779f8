-- `receive::faults::of_rrep` meets its contract, by unfolding the definition.
use Rattle.rules.specs.Receive.{has_bad_address, has_bad_list, is_low_ttl_reply}
use Rattle.receive.specs.Checks.{faults_of}
use Rattle.receive.proofs.faults.of_rrep.Goals as goal

pub returns : goal.returns
unfolding faults_of has_bad_address has_bad_list is_low_ttl_reply
returns c = cc
