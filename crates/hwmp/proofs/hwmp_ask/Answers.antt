-- `hwmp::hwmp_ask` meets its contract, by the contracts of the functions that it calls.
use Rattle.hwmp.proofs.Outcomes.{exit_for_c_lem}
use Rattle.hwmp.proofs.hwmp_ask.Goals as goal

pub returns : goal.returns
returns c = search exit_for_c_lem
