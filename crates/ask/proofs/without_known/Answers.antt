-- `ask::without_known` meets its contract, by the contract of the function that it calls.
use Rattle.ask.proofs.without_known.Goals as goal

pub returns : goal.returns
returns c = cc
