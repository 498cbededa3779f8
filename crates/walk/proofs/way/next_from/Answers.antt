-- `walk::way::next_from` meets its contract: the row is that of the first point with the address.
use Rattle.walk.proofs.Ways.{row_absent, place_below, row_found}
use Rattle.walk.proofs.way.next_from.Goals as goal

pub returns-in_err-i : goal.returns-in_err-i
returns-in_err-i c = let absent = c.in_err-i.was in rw c.from_residual.ensures (search row_absent)

pub table_at-requires : goal.table_at-requires
table_at-requires c = let at_i = c.in_ok-i.was in search place_below

pub returns : goal.returns
returns c = let at_i = c.in_ok-i.was in search row_found
