-- `writing::write_lost` meets its contract: it writes its numbers one after another.
use Rattle.std.proofs.Common.{rules}
use Rattle.writing.proofs.Written.{lost_written}
use Rattle.writing.proofs.write_lost.Goals as goal

pub returns : goal.returns
returns c = search (rules, lost_written)
