-- `element::list::has_forbidden` meets its contract. Invariant: all entries that the loop has passed are allowed.
use Rattle.std.proofs.Common.{◌≡◌}
use Rattle.element.specs.Lists.{addresses_from, any_forbidden}
use Rattle.element.proofs.list.has_forbidden.Given as goal

abbrev pub invariant-loop-i : goal.invariant-loop-i
invariant-loop-i l =
    any_forbidden l.kind (addresses_from l.kind l.part l.i) ≡ any_forbidden l.kind (addresses_from l.kind l.part 0)
