-- `destinations::replies::Request::write_reply` meets its contract, by the contracts of the functions that it calls.
use Rattle.destinations.proofs.Replying.{reply_written}
use Rattle.destinations.proofs.replies.Request.write_reply.Goals as goal

pub returns-clause-output_after : goal.returns-clause-output_after
returns-clause-output_after c = search reply_written
