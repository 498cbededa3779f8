-- `onward::request::send_kept` meets its contract: it writes the kept destinations, and the start after them.
use Rattle.onward.proofs.Requests.{nothing_kept, nothing_written, count_few, kept_room, kept_counted, kept_sent}
use Rattle.onward.proofs.request.send_kept.Goals as goal

pub returns-then-end-start-clause-value : goal.returns-then-end-start-clause-value
returns-then-end-start-clause-value c = search nothing_kept

pub returns-then-end-start-clause-output_after : goal.returns-then-end-start-clause-output_after
returns-then-end-start-clause-output_after c = search nothing_written

pub start_rreq-requires-clause-n_bound : goal.start_rreq-requires-clause-n_bound
start_rreq-requires-clause-n_bound c = search count_few

pub one_frame-requires : goal.one_frame-requires
one_frame-requires c = search kept_room

pub returns-clause-value : goal.returns-clause-value
returns-clause-value c = search kept_counted

pub returns-clause-output_after : goal.returns-clause-output_after
returns-clause-output_after c = search kept_sent
