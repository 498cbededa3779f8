use Rattle.std.proofs.Common.{rules}
use Rattle.matches.proofs.LostRows.{beside_start, beside_found, beside_more, beside_ended}
use Rattle.matches.proofs.rows.number_beside.Goals as goal

pub loop-i-init : goal.loop-i-init
loop-i-init c = search (rules, beside_start)

pub returns-then-eq : goal.returns-then-eq
returns-then-eq c = search beside_found

pub loop-i-preserved : goal.loop-i-preserved
loop-i-preserved c = search (rules, beside_more)

pub returns : goal.returns
returns c = search beside_ended
