-- `hwmp::hwmp_walk` meets its contract, by the contracts of the functions that it calls.
use Rattle.hwmp.proofs.Outcomes.{hops_few}
use Rattle.hwmp.proofs.hwmp_walk.Goals as goal

pub returns-clause-result_value : goal.returns-clause-result_value
returns-clause-result_value c = cc

pub returns-clause-hops_le_count : goal.returns-clause-hops_le_count
returns-clause-hops_le_count c = search hops_few
