-- `receive::request::receive` meets its contract, by the checks and by what an accepted RREQ does.
use Rattle.std.proofs.Common.{rules}
use Rattle.std.proofs.lemmas.Result.{err_from_is_err_and}
use Rattle.receive.proofs.Judging.{judged_rreq, path_refused, path_extends, one_destination}
use Rattle.receive.proofs.Taken.{rreq_received_lem}
use Rattle.receive.proofs.request.receive.Goals as goal

pub returns-in_err-check_and_learn : goal.returns-in_err-check_and_learn
returns-in_err-check_and_learn c =
    let refused = c.in_err-check_and_learn.was in let p = err_from_is_err_and c.from_residual.result c.from_residual.ensures.1 in
    rw (p.1, p.2) (let judged = judged_rreq c.args.table.now c.args.a _ _ c.args.f c.args.part.now c.check_and_learn.ensures.value c.of_rreq.ensures in search path_refused)

pub answer-sent-requires-clause-part_value : goal.answer-sent-requires-clause-part_value
answer-sent-requires-clause-part_value c =
    let ok = c.in_ok-check_and_learn.was in
    let judged = judged_rreq c.args.table.now c.args.a _ _ c.args.f c.args.part.now c.check_and_learn.ensures.value c.of_rreq.ensures in
    search one_destination

pub answer-sent-requires-clause-extends : goal.answer-sent-requires-clause-extends
answer-sent-requires-clause-extends c =
    let ok = c.in_ok-check_and_learn.was in
    let judged = judged_rreq c.args.table.now c.args.a _ _ c.args.f c.args.part.now c.check_and_learn.ensures.value c.of_rreq.ensures in
    search (path_extends, rules)

pub returns : goal.returns
returns c =
    let ok = c.in_ok-check_and_learn.was in
    let judged = judged_rreq c.args.table.now c.args.a _ _ c.args.f c.args.part.now c.check_and_learn.ensures.value c.of_rreq.ensures in
    search rreq_received_lem
