use Rattle.std.proofs.Common.{rules}
use Rattle.element.proofs.Scans.{forbidden_found, forbidden_more, forbidden_ended}
use Rattle.element.proofs.list.has_forbidden.Goals as goal

pub returns-then-not-is_allowed : goal.returns-then-not-is_allowed
returns-then-not-is_allowed c = search forbidden_found

pub loop-i-preserved : goal.loop-i-preserved
loop-i-preserved c = search (rules, forbidden_more)

pub returns : goal.returns
returns c = search forbidden_ended
