-- `receive::receive_element` meets its contract, by cases of what is read.
use mathlib.Core.Path.{ap, ◌∙◌}
use Rattle.std.specs.Prelude.{Ok}
use Rattle.reading.specs.declared.Fields.{Fields}
use Rattle.std.proofs.lemmas.Result.{err_from_is_err_and}
use Rattle.reading.proofs.Readings.{request_part, reply_part, error_part}
use Rattle.receive.proofs.Calling.{rann_read, rreq_read, rrep_read, rerr_read, read_refused}
use Rattle.receive.proofs.receive_element.Goals as goal

pub receive-requires-in-Request-clause-part_of : goal.receive-requires-in-Request-clause-part_of
receive-requires-in-Request-clause-part_of c = let is_read = c.in_ok-fields.was ∙ ap (λ (q : Fields). Ok q) c.in-Request.is in search request_part

pub receive-requires-in-Reply-clause-part_of : goal.receive-requires-in-Reply-clause-part_of
receive-requires-in-Reply-clause-part_of c = let is_read = c.in_ok-fields.was ∙ ap (λ (q : Fields). Ok q) c.in-Reply.is in search reply_part

pub receive-requires-in-Error-clause-part_of : goal.receive-requires-in-Error-clause-part_of
receive-requires-in-Error-clause-part_of c = let is_read = c.in_ok-fields.was ∙ ap (λ (q : Fields). Ok q) c.in-Error.is in search error_part

pub returns-in-Announcement : goal.returns-in-Announcement
returns-in-Announcement c = let is_read = c.in_ok-fields.was ∙ ap (λ (q : Fields). Ok q) c.in-Announcement.is in search rann_read

pub returns-in-Request : goal.returns-in-Request
returns-in-Request c = let is_read = c.in_ok-fields.was ∙ ap (λ (q : Fields). Ok q) c.in-Request.is in search rreq_read

pub returns-in-Reply : goal.returns-in-Reply
returns-in-Reply c = let is_read = c.in_ok-fields.was ∙ ap (λ (q : Fields). Ok q) c.in-Reply.is in search rrep_read

pub returns-in-Error : goal.returns-in-Error
returns-in-Error c = let is_read = c.in_ok-fields.was ∙ ap (λ (q : Fields). Ok q) c.in-Error.is in search rerr_read

pub returns-in_err-fields : goal.returns-in_err-fields
returns-in_err-fields c =
    let refused = c.in_err-fields.was in let p = err_from_is_err_and c.from_residual.result c.from_residual.ensures.1 in
    rw (p.1, p.2) (search read_refused)
