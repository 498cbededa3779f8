-- `matches::rows::number_beside` meets its contract. Invariant: the entries before the current one have other addresses.
use Rattle.std.proofs.Common.{◌-◌, ◌≡◌}
use Rattle.element.specs.Entries.{each, lost_at}
use Rattle.rules.specs.Errors.{number_beside}
use Rattle.matches.proofs.rows.number_beside.Given as goal

abbrev pub invariant-loop-i : goal.invariant-loop-i
invariant-loop-i l =
    number_beside l.d (each (lost_at l.part) l.i (l.n - l.i)) ≡ number_beside l.d (each (lost_at l.part) 0 l.n)
