-- `learn::Heard::transmitter_row` meets its contract, by the contracts of the functions that it calls.
use Rattle.learn.proofs.Renewals.{transmitter_renewed}
use Rattle.learn.proofs.Heard.transmitter_row.Goals as goal

pub returns : goal.returns
returns c = search transmitter_renewed
