-- `walk::walk` meets its contract: it refuses as the checks say, and otherwise follows the way.
use Rattle.std.proofs.Common.{rules}
use Rattle.std.proofs.lemmas.Result.{err_from_is_err_and}
use Rattle.walk.proofs.Ways.{start_accepted, walk_accepted, walk_refused, walk_unsplit}
use Rattle.walk.proofs.walk.Goals as goal

pub returns-in_err-pieces : goal.returns-in_err-pieces
returns-in_err-pieces c = search (rules, walk_unsplit)

pub returns-in_err-check : goal.returns-in_err-check
returns-in_err-check c =
    let same = c.in_ok-pieces.ensures in
    let refused = err_from_is_err_and c.from_residual-in_err-check.result c.from_residual-in_err-check.ensures.1 in
    rw (refused.1, refused.2) (walk_refused _ _ same.0 _ _ same.1 _ _ _ _ c.check.ensures _ c.in_err-check.was)

pub follow-requires : goal.follow-requires
follow-requires c = search (rules, start_accepted)

pub returns : goal.returns
returns c =
    let same = c.in_ok-pieces.ensures in
    walk_accepted _ _ same.0 _ _ same.1 _ _ _ _ c.check.ensures _ c.in_ok-check.was _ c.follow.ensures
