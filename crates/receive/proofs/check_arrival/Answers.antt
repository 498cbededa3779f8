-- `receive::check_arrival` meets its contract, by the checks of the operands and then of the link.
use Rattle.std.proofs.lemmas.Result.{err_from_is_err_and}
use Rattle.rules.specs.Receive.{arrival_checks}
use Rattle.calls.proofs.Checks.{checking, refused_first, passed_first}
use Rattle.receive.proofs.check_arrival.Goals as goal

pub returns-in_err-check_operands : goal.returns-in_err-check_operands
unfolding arrival_checks
returns-in_err-check_operands c =
    let refused = c.in_err-check_operands.was in let p = err_from_is_err_and c.from_residual.result c.from_residual.ensures.1 in
    rw (p.1, p.2) (search refused_first)

pub returns-then-a-eq0 : goal.returns-then-a-eq0
unfolding arrival_checks
returns-then-a-eq0 c = let ok = c.in_ok-check_operands.was in search (checking, passed_first) depth 40

pub returns : goal.returns
unfolding arrival_checks
returns c = let ok = c.in_ok-check_operands.was in search (checking, passed_first) depth 40
