-- `ask::asked_for` meets its contract: each return is a case of `asked_for`.
use Rattle.table.proofs.Cases.{found_within}
use Rattle.ask.proofs.Asked.{number_absent, number_unknown, number_known}
use Rattle.ask.proofs.asked_for.Goals as goal

pub returns-in_default : goal.returns-in_default
returns-in_default c = search number_absent

pub read_row-r-requires : goal.read_row-r-requires
read_row-r-requires c = search found_within

pub returns-then-r-ne1 : goal.returns-then-r-ne1
returns-then-r-ne1 c = search number_unknown

pub returns : goal.returns
returns c = search number_known
