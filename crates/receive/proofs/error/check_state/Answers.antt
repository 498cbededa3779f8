-- `receive::error::check_state` meets its contract, by the checks that receive and break have in common and then the check of
-- the matches.
use Rattle.std.proofs.lemmas.Result.{err_from_is_err_and}
use Rattle.calls.proofs.Checks.{refused_first, passed_first, checking}
use Rattle.receive.proofs.error.check_state.Goals as goal

pub returns-in_err-check_state : goal.returns-in_err-check_state
returns-in_err-check_state c =
    let refused = c.in_err-check_state.was in let p = err_from_is_err_and c.from_residual.result c.from_residual.ensures.1 in
    rw (p.1, p.2) (search refused_first)

pub returns-then-matches_nothing : goal.returns-then-matches_nothing
returns-then-matches_nothing c = let ok = c.in_ok-check_state.was in search (checking, passed_first) depth 40

pub returns : goal.returns
returns c = let ok = c.in_ok-check_state.was in search (checking, passed_first) depth 40
