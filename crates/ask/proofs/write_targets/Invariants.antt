-- `ask::write_targets` meets its contract. Invariant: the output so far and what is left to write make the whole.
use Rattle.std.proofs.Common.{◌+◌, ◌-◌, ◌*◌, ◌≤◌, ◌≡◌, map, length}
use mathlib.Core.List.{flat_map}
use Rattle.octets.specs.LittleEndian.{overwrite}
use Rattle.element.specs.Entries.{each, item_at, target_octets}
use Rattle.rules.specs.Originate.{asked_for}
use Rattle.ask.proofs.Asked.{asked_octets}
use Rattle.ask.proofs.write_targets.Given as goal

abbrev pub invariant-loop-i : goal.invariant-loop-i
invariant-loop-i l =
    (l.i ≤ l.n) × (length l.output ≡ length l.initial.output) × (l.place ≡ l.at + 11 * l.i)
    × (overwrite l.output l.place (flat_map (asked_octets l.table) (each (item_at l.items) l.i (l.n - l.i)))
    ≡ overwrite l.initial.output l.at (flat_map target_octets (map (asked_for l.table) (each (item_at l.items) 0 l.n))))
