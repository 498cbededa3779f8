-- `layout::row::status_at` meets its contract, by unfolding the definition.
use Rattle.std.proofs.Common.{add-zero}
use Rattle.octets.specs.LittleEndian.{fields_at}
use Rattle.layout.specs.Layout.{row_at}
use Rattle.layout.proofs.row.status_at.Goals as goal

pub returns : goal.returns
unfolding row_at fields_at
returns c = cc (add-zero _)
