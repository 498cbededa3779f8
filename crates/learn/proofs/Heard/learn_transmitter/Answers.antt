-- `learn::Heard::learn_transmitter` meets its contract: the row is stored, or stays.
use Rattle.learn.proofs.Renewals.{transmitter_stays, transmitter_place, transmitter_stored}
use Rattle.learn.proofs.Heard.learn_transmitter.Goals as goal

pub returns-then-not-takes_link : goal.returns-then-not-takes_link
returns-then-not-takes_link c = search transmitter_stays

pub put_row-requires : goal.put_row-requires
put_row-requires c = search transmitter_place

pub returns : goal.returns
returns c = search transmitter_stored
