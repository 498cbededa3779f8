-- `probe::numbers::put_targets` meets its contract. Invariant: writing the rest would complete the list.
use Rattle.element.specs.Element.{target_numbers}
use Rattle.element.specs.Entries.{target_at}
use Rattle.probe.proofs.Entries.{Left}
use Rattle.probe.proofs.numbers.put_targets.Given as goal

abbrev pub invariant-loop-i : goal.invariant-loop-i
invariant-loop-i l = Left target_numbers 3 (target_at l.part) l.n l.at l.initial.numbers l.numbers l.i
