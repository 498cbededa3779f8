-- `walk::pieces::are_side_by_side` meets its contract: each return is a case of `side_by_side`.
use Rattle.walk.proofs.Tables.{first_within, none_at_all, too_many, uneven, even}
use Rattle.walk.proofs.pieces.are_side_by_side.Goals as goal

pub returns-then-count-lt1 : goal.returns-then-count-lt1
returns-then-count-lt1 c = search none_at_all

pub returns-then-count-gt16 : goal.returns-then-count-gt16
returns-then-count-gt16 c = search too_many

pub returns-then-octets-count-ne0 : goal.returns-then-octets-count-ne0
returns-then-octets-count-ne0 c = search uneven

pub table_at-requires : goal.table_at-requires
table_at-requires c = search first_within

pub returns : goal.returns
returns c = search even
