-- `layout::row::read_head` meets its contract, by unfolding the definition.
use Rattle.octets.specs.LittleEndian.{fields_at}
use Rattle.layout.specs.Layout.{head_at}
use Rattle.layout.proofs.row.read_head.Goals as goal

pub returns : goal.returns
unfolding head_at fields_at
returns c = cc
