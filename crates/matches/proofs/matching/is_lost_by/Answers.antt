-- `matches::matching::is_lost_by` meets its contract, by the contracts of the functions that it calls.
use Rattle.matches.proofs.LostBy.{lost_is}
use Rattle.matches.proofs.matching.is_lost_by.Goals as goal

pub returns : goal.returns
returns c = search lost_is
