-- `onward::reply::send_on` meets its contract: it writes no frame or one, by the receiver.
use Rattle.onward.proofs.Going.{reply_none, reply_unwritten, reply_counted, reply_written}
use Rattle.onward.proofs.reply.send_on.Goals as goal

pub returns-in_default-clause-value : goal.returns-in_default-clause-value
returns-in_default-clause-value c = search reply_none

pub returns-in_default-clause-output_after : goal.returns-in_default-clause-output_after
returns-in_default-clause-output_after c = search reply_unwritten

pub returns-clause-value : goal.returns-clause-value
returns-clause-value c = search reply_counted

pub returns-clause-output_after : goal.returns-clause-output_after
returns-clause-output_after c = search reply_written
