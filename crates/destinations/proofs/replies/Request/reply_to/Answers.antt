-- `destinations::replies::Request::reply_to` meets its contract: it writes the reply.
use Rattle.destinations.proofs.Replying.{silent_place, silent_output, oneself_place, row_place}
use Rattle.destinations.proofs.replies.Request.reply_to.Goals as goal

pub returns-in_default-clause-value : goal.returns-in_default-clause-value
returns-in_default-clause-value c = search silent_place

pub returns-in_default-clause-output_after : goal.returns-in_default-clause-output_after
returns-in_default-clause-output_after c = search silent_output

pub returns-in-ForItself-clause-value : goal.returns-in-ForItself-clause-value
returns-in-ForItself-clause-value c = search oneself_place

pub returns-in-ByRow-clause-value : goal.returns-in-ByRow-clause-value
returns-in-ByRow-clause-value c = search row_place
