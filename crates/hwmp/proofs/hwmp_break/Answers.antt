-- `hwmp::hwmp_break` meets its contract, by the contracts of the functions that it calls.
use Rattle.hwmp.proofs.Outcomes.{break_exit_for_c}
use Rattle.hwmp.proofs.hwmp_break.Goals as goal

pub returns : goal.returns
returns c = search break_exit_for_c
