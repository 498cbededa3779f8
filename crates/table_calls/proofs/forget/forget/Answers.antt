-- `table_calls::forget::forget` meets its contract: the row that was found is freed, or nothing changes.
use Rattle.std.proofs.Common.{rules}
use Rattle.table_calls.proofs.Cases.{forgotten, not_forgotten}
use Rattle.table_calls.proofs.forget.forget.Goals as goal

pub returns-in_err-i : goal.returns-in_err-i
returns-in_err-i c = search (rules, not_forgotten)

pub returns : goal.returns
returns c = search (rules, forgotten)
