-- `hwmp::hwmp_fresh` meets its contract, by the contracts of the functions that it calls.
use Rattle.hwmp.proofs.hwmp_fresh.Goals as goal

pub returns : goal.returns
returns c = cc
