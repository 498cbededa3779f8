-- `hwmp::hwmp_receive` meets its contract, by the contracts of the functions that it calls.
use Rattle.hwmp.proofs.Outcomes.{receive_exit_for_c}
use Rattle.hwmp.proofs.hwmp_receive.Goals as goal

pub returns : goal.returns
returns c = search receive_exit_for_c
