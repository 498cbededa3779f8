-- `table::legal::is_blank` meets its contract: the fields of a row are zero exactly if its octets are zero.
use Rattle.layout.proofs.HeadAndRows.{blank}
use Rattle.table.proofs.legal.is_blank.Goals as goal

pub returns : goal.returns
returns c = search blank
