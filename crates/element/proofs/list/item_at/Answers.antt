-- `element::list::item_at` meets its contract: it reads the item field by field.
use Rattle.std.proofs.Common.{add-zero}
use Rattle.octets.specs.LittleEndian.{fields_at}
use Rattle.element.specs.Entries.{item_at}
use Rattle.element.proofs.list.item_at.Goals as goal

pub returns : goal.returns
unfolding item_at fields_at
returns c = cc (add-zero _)
