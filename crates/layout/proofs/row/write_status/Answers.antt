-- `layout::row::write_status` meets its contract: its fields are written one after another.
use Rattle.layout.proofs.HeadAndRows.{status_put}
use Rattle.layout.proofs.row.write_status.Goals as goal

pub returns : goal.returns
returns c = search status_put
