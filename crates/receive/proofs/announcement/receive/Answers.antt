-- `receive::announcement::receive` meets its contract, by the checks and by what an accepted RANN does.
use Rattle.std.proofs.Common.{rules}
use Rattle.std.proofs.lemmas.Result.{err_from_is_err_and}
use Rattle.receive.proofs.Judging.{judged_rann, path_refused, path_extends}
use Rattle.receive.proofs.Taken.{rann_received_lem}
use Rattle.receive.proofs.announcement.receive.Goals as goal

pub returns-in_err-check_and_learn : goal.returns-in_err-check_and_learn
returns-in_err-check_and_learn c =
    let refused = c.in_err-check_and_learn.was in let p = err_from_is_err_and c.from_residual.result c.from_residual.ensures.1 in
    rw (p.1, p.2) (let judged = judged_rann c.args.table.now c.args.a c.args.p _ _ c.check_and_learn.ensures.value c.of_rann.ensures in search path_refused)

pub send_on-emitted-requires-clause-extends : goal.send_on-emitted-requires-clause-extends
send_on-emitted-requires-clause-extends c =
    let ok = c.in_ok-check_and_learn.was in
    let judged = judged_rann c.args.table.now c.args.a c.args.p _ _ c.check_and_learn.ensures.value c.of_rann.ensures in
    search (path_extends, rules)

pub returns : goal.returns
returns c =
    let ok = c.in_ok-check_and_learn.was in
    let judged = judged_rann c.args.table.now c.args.a c.args.p _ _ c.check_and_learn.ensures.value c.of_rann.ensures in
    search rann_received_lem
