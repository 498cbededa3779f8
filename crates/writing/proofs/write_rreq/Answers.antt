-- `writing::write_rreq` meets its contract: it writes the start, and then the list part after it.
use Rattle.std.proofs.Common.{rules}
use Rattle.writing.proofs.Written.{rreq_written}
use Rattle.writing.proofs.write_rreq.Goals as goal

pub returns : goal.returns
returns c = search (rules, rreq_written)
