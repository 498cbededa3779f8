-- `breaking::errors::begin` meets its contract, by the contract of the writer.
use Rattle.std.proofs.Common.{rules}
use Rattle.breaking.proofs.Reported.{begin_writes}
use Rattle.breaking.proofs.errors.begin.Goals as goal

pub returns : goal.returns
returns c = search (rules, begin_writes)
