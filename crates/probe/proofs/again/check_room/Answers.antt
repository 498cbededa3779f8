-- `probe::again::check_room` meets its contract, for both sides of the test.
use Rattle.std.proofs.Common.{arith}
use Rattle.std.proofs.lemmas.Bool.Decides.{nat_tests}
use Rattle.probe.proofs.again.check_room.Goals as goal

pub returns-then-size-out : goal.returns-then-size-out
returns-then-size-out c = grind (arith, nat_tests)

pub returns-else-at-out : goal.returns-else-at-out
returns-else-at-out c = grind (arith, nat_tests)
