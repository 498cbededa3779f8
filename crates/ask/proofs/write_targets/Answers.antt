use Rattle.std.proofs.Common.{rules}
use Rattle.writing.proofs.Written.{entries_ended}
use Rattle.ask.proofs.Asked.{asked_start, asked_more}
use Rattle.ask.proofs.write_targets.Goals as goal

pub loop-i-init : goal.loop-i-init
loop-i-init c = search (rules, asked_start)

pub loop-i-preserved : goal.loop-i-preserved
loop-i-preserved c = search (rules, asked_more)

pub returns : goal.returns
returns c = search (rules, entries_ended)
