-- `receive::request::answer` meets its contract: it writes the replies, and after them the forwarded RREQ.
use Rattle.std.proofs.Common.{rules}
use Rattle.receive.proofs.Taken.{replies_few, replies_after, replies_short, replies_room, onward_few, onward_short, answer_counted, answer_written}
use Rattle.receive.proofs.request.answer.Goals as goal

pub send_on-onward-requires-clause-at_in_bounds : goal.send_on-onward-requires-clause-at_in_bounds
send_on-onward-requires-clause-at_in_bounds c = search (replies_room, rules)

pub in_all-requires-clause-frames_bound : goal.in_all-requires-clause-frames_bound
in_all-requires-clause-frames_bound c = search replies_few

pub in_all-requires-clause-at_le_place : goal.in_all-requires-clause-at_le_place
in_all-requires-clause-at_le_place c = search replies_after

pub in_all-requires-clause-place_bound : goal.in_all-requires-clause-place_bound
in_all-requires-clause-place_bound c = search replies_short

pub in_all-requires-clause-frames_bound_2 : goal.in_all-requires-clause-frames_bound_2
in_all-requires-clause-frames_bound_2 c = search onward_few

pub in_all-requires-clause-octets_bound : goal.in_all-requires-clause-octets_bound
in_all-requires-clause-octets_bound c = search onward_short

pub returns-clause-value : goal.returns-clause-value
returns-clause-value c = search answer_counted

pub returns-clause-output_after : goal.returns-clause-output_after
returns-clause-output_after c = search answer_written
