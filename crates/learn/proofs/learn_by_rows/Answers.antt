-- `learn::learn_by_rows` meets its contract: it goes through the list check by check, and then learns.
use Rattle.table.proofs.ByHead.{own_is}
use Rattle.calls.proofs.Checks.{applies, passes, all_passed, as_tested}
use Rattle.learn.proofs.learn_by_rows.Goals as goal

-- The part of `checking` and `by_head` that these checks need. With all of both, a search for a wrong answer reaches its bound.
ruleset judging = (applies, passes, all_passed, as_tested, own_is)

pub returns-then-eq-clause-value : goal.returns-then-eq-clause-value
returns-then-eq-clause-value c = search judging depth 40

pub returns-then-is_stale-clause-value : goal.returns-then-is_stale-clause-value
returns-then-is_stale-clause-value c = search judging depth 40

pub returns-then-lacks_rows-clause-value : goal.returns-then-lacks_rows-clause-value
returns-then-lacks_rows-clause-value c = search judging depth 40

pub returns-clause-value : goal.returns-clause-value
returns-clause-value c = search judging depth 40
