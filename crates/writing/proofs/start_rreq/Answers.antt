-- `writing::start_rreq` meets its contract: it writes its numbers one after another.
use Rattle.std.proofs.Common.{rules}
use Rattle.writing.proofs.Written.{rreq_started}
use Rattle.writing.proofs.start_rreq.Goals as goal

pub returns : goal.returns
returns c = search (rules, rreq_started)
