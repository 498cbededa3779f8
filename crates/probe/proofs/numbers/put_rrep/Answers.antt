-- `probe::numbers::put_rrep` meets its contract: it writes the numbers of the fixed part, and then those of the entries.
use Rattle.std.proofs.Common.{rules}
use Rattle.probe.proofs.Elements.{rrep_put}
use Rattle.probe.proofs.numbers.put_rrep.Goals as goal

pub returns : goal.returns
returns c = search (rules, rrep_put)
