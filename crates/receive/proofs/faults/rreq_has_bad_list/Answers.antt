-- `receive::faults::rreq_has_bad_list` meets its contract: the first fault decides.
use Rattle.receive.proofs.Faulty.{named_duplicate, ones_beside, originator_named, unicast_to_many, mismarked_last}
use Rattle.receive.proofs.faults.rreq_has_bad_list.Goals as goal

pub returns-then-has_duplicate : goal.returns-then-has_duplicate
returns-then-has_duplicate c = search named_duplicate

pub returns-then-has_ones_beside_others : goal.returns-then-has_ones_beside_others
returns-then-has_ones_beside_others c = search ones_beside

pub returns-then-contains : goal.returns-then-contains
returns-then-contains c = search originator_named

pub returns-then-is_unicast_to_several : goal.returns-then-is_unicast_to_several
returns-then-is_unicast_to_several c = search unicast_to_many

pub returns : goal.returns
returns c = search mismarked_last
