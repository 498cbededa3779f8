-- `onward::request::send_on` meets its contract: it writes nothing if the TTL is low or there is no receiver, and otherwise sends
-- the RREQ to its receiver.
use Rattle.onward.proofs.Requests.{request_low, request_low_unwritten, request_none, request_unwritten, request_counted, request_written}
use Rattle.onward.proofs.request.send_on.Goals as goal

pub returns-then-f-lt2-clause-value : goal.returns-then-f-lt2-clause-value
returns-then-f-lt2-clause-value c = search request_low

pub returns-then-f-lt2-clause-output_after : goal.returns-then-f-lt2-clause-output_after
returns-then-f-lt2-clause-output_after c = search request_low_unwritten

pub returns-in_default-clause-value : goal.returns-in_default-clause-value
returns-in_default-clause-value c = search (request_none, c.requires)

pub returns-in_default-clause-output_after : goal.returns-in_default-clause-output_after
returns-in_default-clause-output_after c = search (request_unwritten, c.requires)

pub returns-clause-value : goal.returns-clause-value
returns-clause-value c = search (request_counted, c.requires)

pub returns-clause-output_after : goal.returns-clause-output_after
returns-clause-output_after c = search (request_written, c.requires)
