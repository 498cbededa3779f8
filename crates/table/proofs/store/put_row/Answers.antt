-- `table::store::put_row` meets its contract: it writes the row to its place, or there is no place.
use Rattle.table.proofs.Cases.{place_within, stored_row, stored_none}
use Rattle.table.proofs.store.put_row.Goals as goal

pub write_row-requires : goal.write_row-requires
write_row-requires c = search place_within

pub returns-in-Some : goal.returns-in-Some
returns-in-Some c = search stored_row

pub returns-in_default : goal.returns-in_default
returns-in_default c = search stored_none
