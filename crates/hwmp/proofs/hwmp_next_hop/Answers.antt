-- `hwmp::hwmp_next_hop` meets its contract, by the contracts of the functions that it calls.
use Rattle.hwmp.proofs.hwmp_next_hop.Goals as goal

pub returns : goal.returns
returns c = cc
