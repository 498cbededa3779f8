-- `probe::write_again` meets its contract, for each result of the reader.
use Rattle.std.proofs.Common.{◌∙◌, ap, Ok}
use Rattle.reading.proofs.Readings.{announcement_element, request_part, request_element, reply_part, reply_element, error_part, error_element}
use Rattle.probe.proofs.Frames.{again_refused, again_element}
use Rattle.probe.proofs.write_again.Goals as goal

pub write_rreq-requires : goal.write_rreq-requires
write_rreq-requires c = search (request_part, c.in-Ok-Request.is ∙ ap Ok c.in-Ok-Request.field-0-is)

pub write_rrep-requires : goal.write_rrep-requires
write_rrep-requires c = search (reply_part, c.in-Ok-Reply.is ∙ ap Ok c.in-Ok-Reply.field-0-is)

pub write_rerr-requires : goal.write_rerr-requires
write_rerr-requires c = search (error_part, c.in-Ok-Error.is ∙ ap Ok c.in-Ok-Error.field-0-is)

pub returns-in-Ok-Announcement : goal.returns-in-Ok-Announcement
returns-in-Ok-Announcement c = search (again_element, announcement_element, c.in-Ok-Announcement.is ∙ ap Ok c.in-Ok-Announcement.field-0-is)

pub returns-in-Ok-Request : goal.returns-in-Ok-Request
returns-in-Ok-Request c = search (again_element, request_element, c.in-Ok-Request.is ∙ ap Ok c.in-Ok-Request.field-0-is)

pub returns-in-Ok-Reply : goal.returns-in-Ok-Reply
returns-in-Ok-Reply c = search (again_element, reply_element, c.in-Ok-Reply.is ∙ ap Ok c.in-Ok-Reply.field-0-is)

pub returns-in-Ok-Error : goal.returns-in-Ok-Error
returns-in-Ok-Error c = search (again_element, error_element, c.in-Ok-Error.is ∙ ap Ok c.in-Ok-Error.field-0-is)

pub returns-in-Err : goal.returns-in-Err
returns-in-Err c = search again_refused
