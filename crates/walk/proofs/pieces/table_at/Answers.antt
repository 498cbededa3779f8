-- `walk::pieces::table_at` meets its contract: the table is its part of the octets.
use Rattle.walk.proofs.Tables.{piece_is}
use Rattle.walk.proofs.pieces.table_at.Goals as goal

pub returns : goal.returns
returns c = search piece_is
