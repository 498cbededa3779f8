use Rattle.std.proofs.Common.{rules}
use Rattle.walk.proofs.Tables.{point_met, point_not_met, no_point_left}
use Rattle.walk.proofs.pieces.Pieces.contains_from.Goals as goal

pub returns-then-eq : goal.returns-then-eq
returns-then-eq c = search point_met

pub loop-i-preserved : goal.loop-i-preserved
loop-i-preserved c = search (rules, point_not_met)

pub returns : goal.returns
returns c = search no_point_left
