-- `ask::is_item_list` meets its contract, by unfolding the definition.
use Rattle.rules.specs.Originate.{items_fit}
use Rattle.ask.proofs.is_item_list.Goals as goal

pub returns : goal.returns
unfolding items_fit
returns c = cc
