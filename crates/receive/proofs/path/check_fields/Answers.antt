-- `receive::path::check_fields` meets its contract, by one check of the list after another.
use Rattle.rules.specs.Receive.{field_checks}
use Rattle.calls.proofs.Checks.{checking}
use Rattle.receive.proofs.path.check_fields.Goals as goal

pub returns-then-faults : goal.returns-then-faults
unfolding field_checks
returns-then-faults c = search checking depth 40

pub returns-then-faults-2 : goal.returns-then-faults-2
unfolding field_checks
returns-then-faults-2 c = search checking depth 40

pub returns-then-p-eq0 : goal.returns-then-p-eq0
unfolding field_checks
returns-then-p-eq0 c = search checking depth 40

pub returns-then-p-eq255 : goal.returns-then-p-eq255
unfolding field_checks
returns-then-p-eq255 c = search checking depth 40

pub returns-then-is_too_far : goal.returns-then-is_too_far
unfolding field_checks
returns-then-is_too_far c = search checking depth 40

pub returns-then-faults-3 : goal.returns-then-faults-3
unfolding field_checks
returns-then-faults-3 c = search checking depth 40

pub returns : goal.returns
unfolding field_checks
returns c = search checking depth 40
