-- `probe::probe_read` meets its contract, for each result of the reader.
use Rattle.std.proofs.Common.{◌∙◌, ap, Ok}
use Rattle.reading.proofs.Readings.{announcement_element, request_part, request_element, reply_part, reply_element, error_part, error_element}
use Rattle.probe.proofs.Elements.{read_refused, read_element_lem}
use Rattle.probe.proofs.probe_read.Goals as goal

pub put_rreq-requires-clause-part_of : goal.put_rreq-requires-clause-part_of
put_rreq-requires-clause-part_of c = search (request_part, c.in-Ok-Request.is ∙ ap Ok c.in-Ok-Request.field-0-is)

pub put_rrep-requires-clause-part_of : goal.put_rrep-requires-clause-part_of
put_rrep-requires-clause-part_of c = search (reply_part, c.in-Ok-Reply.is ∙ ap Ok c.in-Ok-Reply.field-0-is)

pub put_rerr-requires-clause-part_of : goal.put_rerr-requires-clause-part_of
put_rerr-requires-clause-part_of c = search (error_part, c.in-Ok-Error.is ∙ ap Ok c.in-Ok-Error.field-0-is)

pub returns-in-Ok-Announcement : goal.returns-in-Ok-Announcement
returns-in-Ok-Announcement c = search (read_element_lem, announcement_element, c.in-Ok-Announcement.is ∙ ap Ok c.in-Ok-Announcement.field-0-is)

pub returns-in-Ok-Request : goal.returns-in-Ok-Request
returns-in-Ok-Request c = search (read_element_lem, request_element, c.in-Ok-Request.is ∙ ap Ok c.in-Ok-Request.field-0-is)

pub returns-in-Ok-Reply : goal.returns-in-Ok-Reply
returns-in-Ok-Reply c = search (read_element_lem, reply_element, c.in-Ok-Reply.is ∙ ap Ok c.in-Ok-Reply.field-0-is)

pub returns-in-Ok-Error : goal.returns-in-Ok-Error
returns-in-Ok-Error c = search (read_element_lem, error_element, c.in-Ok-Error.is ∙ ap Ok c.in-Ok-Error.field-0-is)

pub returns-in-Err : goal.returns-in-Err
returns-in-Err c = rw c.from.ensures (search read_refused)
