-- `matches::rows::erred_with` meets its contract: each return is a case of `erred_with`.
use Rattle.matches.proofs.LostRows.{number_stays, number_taken}
use Rattle.matches.proofs.rows.erred_with.Goals as goal

pub returns-then-not-is_newer : goal.returns-then-not-is_newer
returns-then-not-is_newer c = search number_stays

pub returns : goal.returns
returns c = search number_taken
