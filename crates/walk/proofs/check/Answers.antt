-- `walk::check` meets its contract: it returns the first refusal of the walk's list that applies. The first is passed.
use Rattle.calls.proofs.Checks.{checking}
use Rattle.walk.proofs.Tables.{one_passed, ten_tested}
use Rattle.walk.proofs.check.Goals as goal

pub returns-then-clock-gt-MAX_CLOCK : goal.returns-then-clock-gt-MAX_CLOCK
returns-then-clock-gt-MAX_CLOCK c = search (checking, one_passed) depth 40

pub returns-then-not-is_individual : goal.returns-then-not-is_individual
returns-then-not-is_individual c = search (checking, one_passed) depth 40

pub returns-then-is_point-has_duplicate : goal.returns-then-is_point-has_duplicate
returns-then-is_point-has_duplicate c = search (checking, one_passed, ten_tested) depth 40

pub returns : goal.returns
returns c = search (checking, one_passed, ten_tested) depth 40
