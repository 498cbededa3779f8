-- `table::legal::is_alone` meets its contract: each return is a case of `alone`.
use Rattle.std.proofs.Common.{rules}
use Rattle.table.proofs.Cases.{alone_free, alone_held}
use Rattle.table.proofs.legal.is_alone.Goals as goal

pub returns-then-is_vacant : goal.returns-then-is_vacant
returns-then-is_vacant c = search alone_free

pub returns : goal.returns
returns c = search (alone_held, rules)
