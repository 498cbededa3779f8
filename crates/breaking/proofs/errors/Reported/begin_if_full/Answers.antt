-- `breaking::errors::Reported::begin_if_full` meets its contract: a RERR is begun, or not.
use Rattle.breaking.proofs.Reported.{next_same, next_starts}
use Rattle.breaking.proofs.errors.Reported.begin_if_full.Goals as goal

pub returns-then-self-clause-out_after : goal.returns-then-self-clause-out_after
returns-then-self-clause-out_after c = search next_same

pub returns-clause-out_after : goal.returns-clause-out_after
returns-clause-out_after c = search next_starts
