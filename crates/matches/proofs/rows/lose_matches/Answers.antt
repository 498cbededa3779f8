-- `matches::rows::lose_matches` meets its contract: each row takes what `row_after` makes of it.
use Rattle.std.proofs.Common.{rules}
use Rattle.matches.proofs.rows.lose_matches.Goals as goal

pub returns : goal.returns
returns c = c.change_rows.ensures _ _ (λ r o h. search rules)
