-- `ask::has_high_flags` meets its contract. Invariant: the items from i on give the answer for all items.
use Rattle.std.proofs.Common.{◌-◌, ◌≡◌}
use Rattle.element.specs.Entries.{each, item_at}
use Rattle.rules.specs.Lists.{any}
use Rattle.rules.specs.Originate.{has_high_flags}
use Rattle.ask.proofs.has_high_flags.Given as goal

abbrev pub invariant-loop-i : goal.invariant-loop-i
invariant-loop-i l =
    any has_high_flags (each (item_at l.items) l.i (l.n - l.i)) ≡ any has_high_flags (each (item_at l.items) 0 l.n)
