-- `breaking::errors::Reported::close` meets its contract: the last RERR has its count, or gets it.
use Rattle.breaking.proofs.Reported.{close_none, close_last}
use Rattle.breaking.proofs.errors.Reported.close.Goals as goal

pub returns-then-self : goal.returns-then-self
returns-then-self c = search close_none

pub returns : goal.returns
returns c = search close_last
