-- `element::list::has_duplicate_by_marks` meets its contract. Invariant: the entries from `from` on have no address twice, and
-- are marked.
use Rattle.std.proofs.Common.{◌+◌, ◌≤◌, ◌≡◌, false, length}
use Rattle.layout.proofs.Marks.{Marked}
use Rattle.element.specs.Entries.{entries_in}
use Rattle.element.specs.Lists.{address_in, addresses_from, has_duplicate}
use Rattle.element.proofs.list.has_duplicate_by_marks.Given as goal

abbrev pub invariant-loop-from : goal.invariant-loop-from
invariant-loop-from l =
    (l.from ≤ entries_in l.kind l.part) × (length l.seen ≡ l.last + 1)
    × Marked (address_in l.kind l.part) l.seen l.last l.from (entries_in l.kind l.part)
    × (has_duplicate (addresses_from l.kind l.part l.from) ≡ false)

abbrev pub decreases-loop-from : goal.decreases-loop-from
decreases-loop-from l = l.from
