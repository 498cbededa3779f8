-- `walk::pieces::point_at` meets its contract: the address is the first six octets of the piece.
use Rattle.walk.proofs.Tables.{point_within, point_read}
use Rattle.walk.proofs.pieces.point_at.Goals as goal

pub read_u48-requires : goal.read_u48-requires
read_u48-requires c = search point_within

pub returns : goal.returns
returns c = search point_read
