-- `counters::SequenceNumber::is_older` meets its contract: an older number has its distance in the upper half.
use Rattle.std.proofs.Common.{rules}
use Rattle.counters.proofs.Laws.{older_at}
use Rattle.counters.proofs.SequenceNumber.is_older.Goals as goal

pub returns : goal.returns
returns c = search (older_at, rules)
