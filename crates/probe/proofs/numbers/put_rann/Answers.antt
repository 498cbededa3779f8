-- `probe::numbers::put_rann` meets its contract: it writes the numbers of the fixed part, and a RANN has no others.
use Rattle.std.proofs.Common.{rules}
use Rattle.probe.proofs.Elements.{rann_put}
use Rattle.probe.proofs.numbers.put_rann.Goals as goal

pub returns : goal.returns
returns c = search (rules, rann_put)
