-- `writing::start_rerr` meets its contract: it writes its numbers one after another.
use Rattle.std.proofs.Common.{rules}
use Rattle.writing.proofs.Written.{rerr_started}
use Rattle.writing.proofs.start_rerr.Goals as goal

pub returns : goal.returns
returns c = search (rules, rerr_started)
