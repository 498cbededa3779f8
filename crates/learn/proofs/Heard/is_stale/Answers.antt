-- `learn::Heard::is_stale` meets its contract: the row was found, or there is none.
use Rattle.table.proofs.Cases.{found_within}
use Rattle.learn.proofs.Staleness.{stale_absent, stale_found}
use Rattle.learn.proofs.Heard.is_stale.Goals as goal

pub returns-in_default : goal.returns-in_default
returns-in_default c = search stale_absent

pub read_row-requires : goal.read_row-requires
read_row-requires c = search found_within

pub returns : goal.returns
returns c = search stale_found
