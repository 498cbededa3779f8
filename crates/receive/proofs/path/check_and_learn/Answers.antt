-- `receive::path::check_and_learn` meets its contract, by the checks of the fields and then those of the state.
use Rattle.std.proofs.Common.{rules}
use Rattle.std.proofs.lemmas.Result.{err_from_is_err_and}
use Rattle.calls.proofs.Checks.{refused_first, passed_first}
use Rattle.receive.proofs.Judging.{fields_extend}
use Rattle.receive.proofs.path.check_and_learn.Goals as goal

pub returns-in_err-check_fields-clause-value : goal.returns-in_err-check_fields-clause-value
returns-in_err-check_fields-clause-value c =
    let refused = c.in_err-check_fields.was in let p = err_from_is_err_and c.from_residual.result c.from_residual.ensures.1 in
    rw (p.1, p.2) (search refused_first)

pub learn-requires-clause-extends : goal.learn-requires-clause-extends
learn-requires-clause-extends c = let ok = c.in_ok-check_fields.was in search (fields_extend, rules)

pub returns-clause-value : goal.returns-clause-value
returns-clause-value c = let ok = c.in_ok-check_fields.was in search passed_first
