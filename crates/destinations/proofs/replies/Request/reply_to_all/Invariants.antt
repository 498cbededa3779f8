-- `destinations::replies::Request::reply_to_all` meets its contract. Invariant: the replies so far and what is left make the whole.
use Rattle.std.proofs.Common.{◌≡◌, length}
use Rattle.destinations.proofs.Replying.{Replying}
use Rattle.destinations.proofs.replies.Request.reply_to_all.Given as goal

abbrev pub invariant-loop-i : goal.invariant-loop-i
invariant-loop-i l =
    (length l.output ≡ length l.initial.output)
    × Replying l.self.table.now l.self.arrival l.self.path l.part l.initial.output l.at l.n l.initial.replied.number l.i l.replied l.output
