use Rattle.std.proofs.Common.{rules}
use Rattle.destinations.proofs.Replying.{replying_start, replying_more, all_replied, replies_written}
use Rattle.destinations.proofs.replies.Request.reply_to_all.Goals as goal

pub loop-i-init : goal.loop-i-init
loop-i-init c = search (rules, replying_start)

pub loop-i-preserved : goal.loop-i-preserved
loop-i-preserved c = search (rules, replying_more)

pub returns-clause-value : goal.returns-clause-value
returns-clause-value c = search all_replied

pub returns-clause-output_after : goal.returns-clause-output_after
returns-clause-output_after c = search replies_written
