-- `layout::row::read_row` meets its contract: it reads the row field by field.
use Rattle.layout.proofs.HeadAndRows.{read}
use Rattle.layout.proofs.row.read_row.Goals as goal

pub returns : goal.returns
returns c = search read
