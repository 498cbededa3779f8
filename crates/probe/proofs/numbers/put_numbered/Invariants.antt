-- `probe::numbers::put_numbered` meets its contract. Invariant: writing the rest would complete the list.
use Rattle.element.specs.Element.{numbered_numbers}
use Rattle.element.specs.Entries.{numbered_at}
use Rattle.probe.proofs.Entries.{Left}
use Rattle.probe.proofs.numbers.put_numbered.Given as goal

abbrev pub invariant-loop-i : goal.invariant-loop-i
invariant-loop-i l = Left numbered_numbers 2 (numbered_at l.part) l.n l.at l.initial.numbers l.numbers l.i
