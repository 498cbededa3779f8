-- `receive::reply::receive` meets its contract, by the checks and by what an accepted RREP does.
use Rattle.std.proofs.Common.{rules}
use Rattle.std.proofs.lemmas.Result.{err_from_is_err_and}
use Rattle.receive.proofs.Judging.{judged_rrep, path_refused, path_extends, ttl_left}
use Rattle.receive.proofs.Taken.{rrep_received_lem}
use Rattle.receive.proofs.reply.receive.Goals as goal

pub returns-in_err-check_and_learn : goal.returns-in_err-check_and_learn
returns-in_err-check_and_learn c =
    let refused = c.in_err-check_and_learn.was in let p = err_from_is_err_and c.from_residual.result c.from_residual.ensures.1 in
    rw (p.1, p.2) (let judged = judged_rrep c.args.table.now c.args.a _ _ c.args.f c.args.part.now c.check_and_learn.ensures.value c.of_rrep.ensures in search path_refused)

pub send_on-emitted-requires-clause-extends : goal.send_on-emitted-requires-clause-extends
send_on-emitted-requires-clause-extends c =
    let ok = c.in_ok-check_and_learn.was in
    let judged = judged_rrep c.args.table.now c.args.a _ _ c.args.f c.args.part.now c.check_and_learn.ensures.value c.of_rrep.ensures in
    search (path_extends, rules)

pub send_on-emitted-requires-clause-le_ttl : goal.send_on-emitted-requires-clause-le_ttl
send_on-emitted-requires-clause-le_ttl c =
    let ok = c.in_ok-check_and_learn.was in
    let judged = judged_rrep c.args.table.now c.args.a _ _ c.args.f c.args.part.now c.check_and_learn.ensures.value c.of_rrep.ensures in
    search ttl_left

pub returns : goal.returns
returns c =
    let ok = c.in_ok-check_and_learn.was in
    let judged = judged_rrep c.args.table.now c.args.a _ _ c.args.f c.args.part.now c.check_and_learn.ensures.value c.of_rrep.ensures in
    search rrep_received_lem
