-- `walk::pieces::Pieces::table_at` meets its contract: a piece has a length that a table may have.
use Rattle.walk.proofs.Tables.{piece_sized}
use Rattle.walk.proofs.pieces.Pieces.table_at.Goals as goal

pub returns-clause-sized : goal.returns-clause-sized
returns-clause-sized c = search piece_sized
