-- `octets::write_fields` meets its contract. Invariant: writing the fields that are left gives the whole result.
use Rattle.std.proofs.Common.{◌+◌, ◌≡◌, length, drop}
use Rattle.octets.specs.LittleEndian.{total, with_fields}
use Rattle.octets.proofs.write_fields.Given as goal

abbrev pub invariant-loop-i : goal.invariant-loop-i
invariant-loop-i l =
    (length l.s ≡ length l.initial.s) × (l.o + total (drop l.i l.widths) ≡ total l.widths)
    × (with_fields (drop l.i l.widths) l.s l.at l.o (drop l.i l.values) ≡ with_fields l.widths l.initial.s l.at 0 l.values)
