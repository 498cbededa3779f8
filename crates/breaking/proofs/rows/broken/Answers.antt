-- `breaking::rows::broken` meets its contract: each return is a case of `broken`.
use Rattle.breaking.proofs.Broken.{broken_unknown, broken_known}
use Rattle.breaking.proofs.rows.broken.Goals as goal

pub returns-then-r-ne1 : goal.returns-then-r-ne1
returns-then-r-ne1 c = search broken_unknown

pub returns : goal.returns
returns c = search broken_known
