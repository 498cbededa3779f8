-- `octets::write_octets` meets its contract. Invariant: writing what is left gives the whole result. The type of p says that
-- each number in it is an octet.
use Rattle.std.proofs.Common.{◌+◌, ◌≡◌, length, drop}
use Rattle.octets.specs.LittleEndian.{overwrite}
use Rattle.octets.proofs.write_octets.Given as goal

abbrev pub invariant-loop-j : goal.invariant-loop-j
invariant-loop-j l =
    (overwrite l.s (l.at + l.j) (drop l.j l.p) ≡ overwrite l.initial.s l.at l.p) × (length l.s ≡ length l.initial.s)
