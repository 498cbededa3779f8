-- `originate::common::check` meets its contract, by one check of the list after another.
use Rattle.calls.proofs.Checks.{passes_1, checking}
use Rattle.originate.proofs.common.check.Goals as goal

pub returns-then-not-is_sized : goal.returns-then-not-is_sized
returns-then-not-is_sized c = search checking depth 40

pub returns-then-output-lt-LEAST_OUTPUT : goal.returns-then-output-lt-LEAST_OUTPUT
returns-then-output-lt-LEAST_OUTPUT c = search checking depth 40

pub returns-then-barred : goal.returns-then-barred
returns-then-barred c = search checking depth 40

pub returns-then-lifetime-eq0 : goal.returns-then-lifetime-eq0
returns-then-lifetime-eq0 c = search checking depth 40

pub is_table-requires : goal.is_table-requires
is_table-requires c = search passes_1

pub returns-then-not-is_table : goal.returns-then-not-is_table
returns-then-not-is_table c = search checking depth 40

pub returns : goal.returns
returns c = search checking depth 40
