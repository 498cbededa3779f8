-- `calls::clocked::check_operands` meets its contract, by one check of the list after another.
use Rattle.rules.specs.Checks.{operand_checks}
use Rattle.calls.proofs.Checks.{checking}
use Rattle.calls.proofs.clocked.check_operands.Goals as goal

pub returns-then-not-is_sized : goal.returns-then-not-is_sized
unfolding operand_checks
returns-then-not-is_sized c = search checking depth 40

pub returns-then-output-lt-LEAST_OUTPUT : goal.returns-then-output-lt-LEAST_OUTPUT
unfolding operand_checks
returns-then-output-lt-LEAST_OUTPUT c = search checking depth 40

pub returns-then-clock-gt-MAX_CLOCK : goal.returns-then-clock-gt-MAX_CLOCK
unfolding operand_checks
returns-then-clock-gt-MAX_CLOCK c = search checking depth 40

pub returns-then-not-is_individual : goal.returns-then-not-is_individual
unfolding operand_checks
returns-then-not-is_individual c = search checking depth 40

pub returns : goal.returns
unfolding operand_checks
returns c = search checking depth 40
