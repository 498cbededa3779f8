-- `writing::kept::write_kept` meets its contract. Invariant: what is written and what is kept of the rest make the whole.
use Rattle.std.proofs.Common.{◌≡◌, ◌+◌, ◌*◌, ◌≤◌, Option, length}
use Rattle.writing.specs.Kept.{KeepsBy}
use Rattle.writing.proofs.Listing.{Listing}
use Rattle.writing.proofs.kept.write_kept.Given as goal

abbrev pub invariant-loop-i : goal.invariant-loop-i
invariant-loop-i g l =
    (length l.out ≡ length l.initial.out)
    × (l.place ≤ l.at + g.E.Entry.SIZE * l.i)
    × ((k : _ → Option _) → KeepsBy (goal.F-post g l.keep) k
    → Listing g.E.Entry.entry_octets (g.E.Entry.entry_at l.part) k l.n l.initial.out l.at l.i l.place l.out)
