-- `writing::start_rrep` meets its contract: it writes its numbers one after another.
use Rattle.std.proofs.Common.{rules}
use Rattle.writing.proofs.Written.{rrep_started}
use Rattle.writing.proofs.start_rrep.Goals as goal

pub returns : goal.returns
returns c = search (rules, rrep_started)
