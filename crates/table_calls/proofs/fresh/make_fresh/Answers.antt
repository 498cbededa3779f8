-- `table_calls::fresh::make_fresh` meets its contract: each return is a case of `make_fresh`.
use Rattle.calls.proofs.Checks.{passes_1}
use Rattle.table_calls.proofs.Cases.{fresh_1, fresh_9, fresh_made}
use Rattle.table_calls.proofs.fresh.make_fresh.Goals as goal

pub returns-then-not-is_sized : goal.returns-then-not-is_sized
returns-then-not-is_sized c = search fresh_1

pub returns-then-not-is_individual : goal.returns-then-not-is_individual
returns-then-not-is_individual c = search fresh_9

pub make_fresh-requires : goal.make_fresh-requires
make_fresh-requires c = search passes_1

pub returns : goal.returns
returns c = search fresh_made
