-- `probe::numbers::put` meets its contract: it copies the values into the part of their length.
use Rattle.std.proofs.Common.{rules}
use Rattle.probe.proofs.Elements.{values_put}
use Rattle.probe.proofs.numbers.put.Goals as goal

pub returns : goal.returns
returns c = search (rules, values_put)
