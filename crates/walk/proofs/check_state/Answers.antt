-- `walk::check_state` meets its contract: it returns the first of the two refusals that applies.
use Rattle.calls.proofs.Checks.{checking}
use Rattle.walk.proofs.check_state.Goals as goal

pub returns-then-has_non_table : goal.returns-then-has_non_table
returns-then-has_non_table c = search checking depth 40

pub returns-then-has_later_clock : goal.returns-then-has_later_clock
returns-then-has_later_clock c = search checking depth 40

pub returns : goal.returns
returns c = search checking depth 40
