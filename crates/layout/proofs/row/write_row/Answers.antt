-- `layout::row::write_row` meets its contract: its fields are written one after another.
use Rattle.layout.proofs.HeadAndRows.{fields_put}
use Rattle.layout.proofs.row.write_row.Goals as goal

pub returns : goal.returns
returns c = search fields_put
