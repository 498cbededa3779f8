-- `breaking::rows::BrokenLink::lose_rows` meets its contract: either no row breaks, or each row takes what `row_after` makes of it.
use Rattle.std.proofs.Common.{rules}
use Rattle.breaking.proofs.Broken.{none_changed}
use Rattle.breaking.proofs.rows.BrokenLink.lose_rows.Goals as goal

pub returns-then-lost-eq0 : goal.returns-then-lost-eq0
returns-then-lost-eq0 c = search none_changed

pub returns : goal.returns
returns c = c.change_rows.ensures _ _ (λ r o h. search rules)
