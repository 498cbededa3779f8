-- `probe::numbers::put_rerr` meets its contract: it writes the numbers of the fixed part, and then those of the entries.
use Rattle.std.proofs.Common.{rules}
use Rattle.probe.proofs.Elements.{rerr_put}
use Rattle.probe.proofs.numbers.put_rerr.Goals as goal

pub returns : goal.returns
returns c = search (rules, rerr_put)
