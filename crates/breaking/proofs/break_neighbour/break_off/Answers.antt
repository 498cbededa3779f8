-- `breaking::break_neighbour::break_off` meets its contract, by the rows, the head and the frames.
use Rattle.breaking.proofs.Broken.{lost_few, broken_exit}
use Rattle.breaking.proofs.break_neighbour.break_off.Goals as goal

pub emitted-requires : goal.emitted-requires
emitted-requires c = search lost_few

pub returns : goal.returns
returns c = search broken_exit
