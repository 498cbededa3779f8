use Rattle.std.proofs.Common.{rules}
use Rattle.layout.specs.Address.{same}
use Rattle.table.proofs.Places.{first_none, first_more, first_here, first_ended}
use Rattle.walk.specs.Pieces.{point_at}
use Rattle.walk.proofs.pieces.Pieces.find.Goals as goal

pub loop-i-init : goal.loop-i-init
loop-i-init c = search (rules, first_none)

pub returns-then-eq : goal.returns-then-eq
returns-then-eq c =
    let s = c.args.self.now in
    first_here (λ k. same (point_at s.octets.now s.long k) c.args.address) s.count c.loop-i.i c.eq.result (search rules) (search rules)
    c.loop-i.invariant (search rules)

pub loop-i-preserved : goal.loop-i-preserved
loop-i-preserved c = search (rules, first_more)

pub returns : goal.returns
returns c = search first_ended
