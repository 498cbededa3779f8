-- `learn::Heard::is_stale_for` meets its contract: each return is a case of `is_stale_for`.
use Rattle.learn.proofs.Staleness.{stale_unknown, stale_older, stale_by_metric}
use Rattle.learn.proofs.Heard.is_stale_for.Goals as goal

pub returns-then-r-ne1 : goal.returns-then-r-ne1
returns-then-r-ne1 c = search stale_unknown

pub returns-then-is_older : goal.returns-then-is_older
returns-then-is_older c = search stale_older

pub returns : goal.returns
returns c = search stale_by_metric
