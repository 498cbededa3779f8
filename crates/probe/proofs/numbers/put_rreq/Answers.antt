-- `probe::numbers::put_rreq` meets its contract: it writes the numbers of the fixed part, and then those of the entries.
use Rattle.std.proofs.Common.{rules}
use Rattle.probe.proofs.Elements.{rreq_put}
use Rattle.probe.proofs.numbers.put_rreq.Goals as goal

pub returns : goal.returns
returns c = search (rules, rreq_put)
