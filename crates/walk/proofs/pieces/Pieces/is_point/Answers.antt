-- `walk::pieces::Pieces::is_point` meets its contract: it searches the points from the first on.
use Rattle.walk.proofs.Tables.{point_contained}
use Rattle.walk.proofs.pieces.Pieces.is_point.Goals as goal

pub returns : goal.returns
returns c = search point_contained
