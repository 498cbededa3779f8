-- `octets::write_number` meets its contract. Invariant: writing what is left gives the whole result.
use Rattle.std.proofs.Common.{◌+◌, ◌-◌, ◌≡◌, length}
use Rattle.octets.specs.LittleEndian.{with_number}
use Rattle.octets.proofs.write_number.Given as goal

abbrev pub invariant-loop-j : goal.invariant-loop-j
invariant-loop-j l =
    (with_number (l.n - l.j) l.s (l.at + l.j) l.rest ≡ with_number l.n l.initial.s l.at l.x)
    × (length l.s ≡ length l.initial.s)
