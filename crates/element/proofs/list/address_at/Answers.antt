-- `element::list::address_at` meets its contract: the address stands at its place in the entry.
use Rattle.element.proofs.Scans.{address_read}
use Rattle.element.proofs.list.address_at.Goals as goal

pub returns : goal.returns
returns c = search address_read
