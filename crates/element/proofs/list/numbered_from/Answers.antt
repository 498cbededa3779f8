-- `element::list::numbered_from` meets its contract: it reads the two fields.
use Rattle.std.proofs.Common.{add-zero}
use Rattle.octets.specs.LittleEndian.{fields_at}
use Rattle.element.proofs.list.numbered_from.Goals as goal

pub returns : goal.returns
unfolding fields_at
returns c = cc (add-zero _)
