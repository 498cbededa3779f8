-- `octets::clear` meets its contract. Invariant: every octet before the current one is zero.
use Rattle.std.proofs.Common.{◌≡◌, length}
use Rattle.octets.proofs.Laws.{Cleared}
use Rattle.octets.proofs.clear.Given as goal

abbrev pub invariant-loop-at : goal.invariant-loop-at
invariant-loop-at l = (length l.s ≡ length l.initial.s) × Cleared l.s l.at
