-- `receive::faults::has_mismarked` meets its contract. Invariant: the destinations from i on give the answer for all destinations.
use Rattle.std.proofs.Common.{◌-◌, ◌≡◌}
use Rattle.element.specs.Entries.{each, target_at}
use Rattle.rules.specs.Lists.{any}
use Rattle.rules.specs.Receive.{is_mismarked}
use Rattle.receive.proofs.faults.has_mismarked.Given as goal

abbrev pub invariant-loop-i : goal.invariant-loop-i
invariant-loop-i l =
    any is_mismarked (each (target_at l.part) l.i (l.n - l.i)) ≡ any is_mismarked (each (target_at l.part) 0 l.n)
