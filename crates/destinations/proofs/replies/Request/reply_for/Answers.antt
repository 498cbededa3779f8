-- `destinations::replies::Request::reply_for` meets its contract: each return is a case of `answered`.
use Rattle.destinations.proofs.Replying.{self_answers, other_answers, unwanted_answers, wanted_answers}
use Rattle.destinations.proofs.replies.Request.reply_for.Goals as goal

pub returns-then-eq : goal.returns-then-eq
returns-then-eq c = search self_answers

pub returns-then-ne : goal.returns-then-ne
returns-then-ne c = search other_answers

pub returns-then-not-is_reply_wanted : goal.returns-then-not-is_reply_wanted
returns-then-not-is_reply_wanted c = search unwanted_answers

pub returns : goal.returns
returns c = search wanted_answers
