-- `element::list::target_at` meets its contract: it reads the destination field by field.
use Rattle.std.proofs.Common.{add-zero}
use Rattle.octets.specs.LittleEndian.{fields_at}
use Rattle.element.specs.Entries.{target_at}
use Rattle.element.proofs.list.target_at.Goals as goal

pub returns : goal.returns
unfolding target_at fields_at
returns c = cc (add-zero _)
