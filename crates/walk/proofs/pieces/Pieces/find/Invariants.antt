-- `walk::pieces::Pieces::find` meets its contract. Invariant: no point before the current one has the address.
use Rattle.std.proofs.Common.{◌≡◌}
use Rattle.std.specs.Prelude.{None}
use Rattle.layout.specs.Address.{same}
use Rattle.table.specs.Places.{first}
use Rattle.walk.specs.Pieces.{point_at}
use Rattle.walk.proofs.pieces.Pieces.find.Given as goal

abbrev pub invariant-loop-i : goal.invariant-loop-i
invariant-loop-i l = first (λ i. same (point_at l.self.octets.now l.self.long i) l.address) l.i ≡ None
