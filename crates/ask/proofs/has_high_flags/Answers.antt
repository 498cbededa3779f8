use Rattle.std.proofs.Common.{rules}
use Rattle.rules.proofs.AnyOf.{any_start, any_ended}
use Rattle.ask.proofs.Asked.{high_found, high_more}
use Rattle.ask.proofs.has_high_flags.Goals as goal

pub loop-i-init : goal.loop-i-init
loop-i-init c = search (rules, any_start)

pub returns-then-item_at-gt3 : goal.returns-then-item_at-gt3
returns-then-item_at-gt3 c = search high_found

pub loop-i-preserved : goal.loop-i-preserved
loop-i-preserved c = search (rules, high_more)

pub returns : goal.returns
returns c = search any_ended
