-- `ask::check_items` meets its contract, by one check of the list after another.
use Rattle.rules.specs.Originate.{item_checks}
use Rattle.calls.proofs.Checks.{checking}
use Rattle.ask.proofs.check_items.Goals as goal

pub returns-then-not-is_item_list : goal.returns-then-not-is_item_list
unfolding item_checks
returns-then-not-is_item_list c = search checking depth 40

pub returns-then-has_forbidden : goal.returns-then-has_forbidden
unfolding item_checks
returns-then-has_forbidden c = search checking depth 40

pub returns-then-has_duplicate-has_high_flags : goal.returns-then-has_duplicate-has_high_flags
unfolding item_checks
returns-then-has_duplicate-has_high_flags c = search checking depth 40

pub returns : goal.returns
unfolding item_checks
returns c = search checking depth 40
