-- `walk::way::ended` meets its contract: each return is a case of `resumed`.
use Rattle.walk.proofs.Ways.{ended_there, ended_off, ended_on}
use Rattle.walk.proofs.way.ended.Goals as goal

pub returns-then-eq : goal.returns-then-eq
returns-then-eq c = search ended_there

pub returns-then-not-is_point : goal.returns-then-not-is_point
returns-then-not-is_point c = search ended_off

pub returns : goal.returns
returns c = search ended_on
