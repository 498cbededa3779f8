-- `matches::rows::row_after` meets its contract: the row is invalidated, or stays.
use Rattle.std.proofs.Common.{rules}
use Rattle.matches.proofs.LostRows.{elsewhere_stays, unnamed_stays, match_lost}
use Rattle.matches.proofs.rows.row_after.Goals as goal

pub returns-then-not-is_lost_by : goal.returns-then-not-is_lost_by
returns-then-not-is_lost_by c = search elsewhere_stays

pub returns-in_err-number : goal.returns-in_err-number
returns-in_err-number c = search (rules, unnamed_stays)

pub returns : goal.returns
returns c = let named = c.in_ok-number.was in search match_lost
