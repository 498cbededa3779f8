-- `receive::path::learn` meets its contract, by the checks that receive and break have in common and then those of the rows.
use Rattle.std.proofs.lemmas.Result.{err_from_is_err_and}
use Rattle.calls.proofs.Checks.{refused_first, passed_first}
use Rattle.receive.proofs.path.learn.Goals as goal

pub returns-in_err-check_state-clause-value : goal.returns-in_err-check_state-clause-value
returns-in_err-check_state-clause-value c =
    let refused = c.in_err-check_state.was in let p = err_from_is_err_and c.from_residual.result c.from_residual.ensures.1 in
    rw (p.1, p.2) (search refused_first)

pub returns-clause-value : goal.returns-clause-value
returns-clause-value c = let ok = c.in_ok-check_state.was in search passed_first
