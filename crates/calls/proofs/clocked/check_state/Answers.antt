-- `calls::clocked::check_state` meets its contract, by one check of the list after another.
use Rattle.rules.specs.Checks.{state_checks}
use Rattle.table.proofs.ByHead.{by_head}
use Rattle.calls.proofs.Checks.{checking}
use Rattle.calls.proofs.clocked.check_state.Goals as goal

pub returns-then-not-is_table : goal.returns-then-not-is_table
unfolding state_checks
returns-then-not-is_table c = search checking depth 40

pub returns-then-clock-head : goal.returns-then-clock-head
unfolding state_checks
returns-then-clock-head c = search (checking, by_head) depth 40

pub returns-then-eq : goal.returns-then-eq
unfolding state_checks
returns-then-eq c = search (checking, by_head) depth 40

pub returns : goal.returns
unfolding state_checks
returns c = search (checking, by_head) depth 40
