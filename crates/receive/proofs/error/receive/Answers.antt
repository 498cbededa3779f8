-- `receive::error::receive` meets its contract, by the check and by what an accepted RERR does.
use Rattle.std.proofs.lemmas.Result.{err_from_is_err_and}
use Rattle.rules.specs.Receive.{judging}
use Rattle.calls.proofs.Checks.{refusal, acceptance}
use Rattle.receive.proofs.error.receive.Goals as goal

pub returns : goal.returns
unfolding judging
returns c = let ok = c.in_ok-check.was in search acceptance

pub returns-in_err-check : goal.returns-in_err-check
unfolding judging
returns-in_err-check c =
    let refused = c.in_err-check.was in let p = err_from_is_err_and c.from_residual.result c.from_residual.ensures.1 in
    rw (p.1, p.2) (search refusal)
