-- `walk::pieces::Pieces::has_later_clock` meets its contract: what is found at an index is found among the tables.
use Rattle.std.proofs.Common.{rules, tests, arith}
use Rattle.std.proofs.lemmas.Iterator.{YieldsList-from_range}
use Rattle.std.proofs.lemmas.Iterator.Search.{any_from_yields_List}
use Rattle.walk.proofs.Tables.{later_found}
use Rattle.walk.proofs.pieces.Pieces.has_later_clock.Goals as goal

pub returns : goal.returns
returns c =
    let s = c.args.self.now in
    later_found s.octets.now s.long s.count s.some_piece s.whole _ c.args.clock
    (any_from_yields_List _ _ _ _ c.any.ensures.ran (YieldsList-from_range 0 s.count s.count (cc) (omega arith)) (λ x b q k. search (rules, tests)))
