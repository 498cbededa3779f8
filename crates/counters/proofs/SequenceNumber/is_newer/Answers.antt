-- `counters::SequenceNumber::is_newer` meets its contract: a newer number has its distance in the lower half, above 0.
use Rattle.std.proofs.Common.{rules}
use Rattle.counters.proofs.Laws.{newer_at}
use Rattle.counters.proofs.SequenceNumber.is_newer.Goals as goal

pub returns : goal.returns
returns c = search (newer_at, rules)
