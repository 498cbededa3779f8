-- `matches::matching::if_match` meets its contract: the row was found, or there is none.
use Rattle.std.proofs.Common.{◌≡◌, false, refl}
use Rattle.rules.specs.Errors.{matches}
use Rattle.table.proofs.Cases.{found_within}
use Rattle.matches.proofs.LostBy.{match_absent, match_found}
use Rattle.matches.proofs.matching.if_match.Goals as goal

pub returns-in_default : goal.returns-in_default
returns-in_default c =
    let absent : false ≡ matches c.args.table.now c.args.a.clock c.args.a.transmitter c.args.m = search match_absent in
    rw (← absent) refl

pub read_row-r-requires : goal.read_row-r-requires
read_row-r-requires c = search found_within

pub returns : goal.returns
returns c =
    let found : c.is_lost_by.result ≡ matches c.args.table.now c.args.a.clock c.args.a.transmitter c.args.m = search match_found in
    rw (← found) c.then_some.ensures
