-- `writing::write_rrep` meets its contract: it writes the start, and then the list part after it.
use Rattle.std.proofs.Common.{rules}
use Rattle.writing.proofs.Written.{rrep_written}
use Rattle.writing.proofs.write_rrep.Goals as goal

pub returns : goal.returns
returns c = search (rules, rrep_written)
