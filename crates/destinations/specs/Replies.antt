-- Defines the replies while the code writes them. Only contracts of the code use the definitions of this file.
use Rattle.std.specs.Prelude.{ℕ, ◌+◌, ◌≡◌, length, List, [], ◌∷◌, Option, None, Some}
use Rattle.counters.specs.declared.SequenceNumber.{SequenceNumber}
use Rattle.layout.specs.declared.address.Address.{Address}
use Rattle.layout.specs.declared.row.Row.{Row}
use Rattle.table.specs.Table.{own}
use Rattle.element.specs.declared.PathInfo.{PathInfo}
use Rattle.element.specs.declared.Target.{Target}
use Rattle.rules.specs.declared.Arrival.{Arrival}
use Rattle.rules.specs.Exit.{Frame, frame_octets}
use Rattle.rules.specs.Destinations.{Answered, reply, own_reply, row_reply, answered}
use Rattle.destinations.specs.declared.replies.Replied.{Replied}
use Rattle.destinations.specs.declared.replies.Reply.{Reply}
use Rattle.destinations.specs.declared.replies.Reply.TheVariants.{ForItself, ByRow}
use Rattle.destinations.specs.declared.replies.Said.{Said}

-- What an intermediate reply says, which is what the row says, and what a reply of a point for itself says.
abbrev pub of_row : Row → Said
of_row r = record { destination = r.destination; number = r.number; hops = r.hops; metric = r.metric }

abbrev pub of_oneself : Address → SequenceNumber → Said
of_oneself self number = record { destination = self; number = number; hops = record { 0 = 0 }; metric = record { 0 = 0 } }

-- Returns the reply that says this.
abbrev pub reply_saying : Arrival → PathInfo → Said → Frame
reply_saying a p s = reply a p s.destination s.number s.hops s.metric

-- Returns the reply by the row that answers for another destination, if a row answers.
abbrev pub by_row : Option Row → Option Reply
by_row None = None
by_row (Some r) = Some (ByRow r)

-- Returns the frames of a reply, if there is one. `self` is the own address.
abbrev pub frames_of : Arrival → PathInfo → Address → Option Reply → List Frame
frames_of a p self None = []
frames_of a p self (Some (ForItself n)) = own_reply a p self n ∷ []
frames_of a p self (Some (ByRow r)) = row_reply a p r ∷ []

-- Returns the own number after a reply, where n is the own number before it.
abbrev pub number_after : SequenceNumber → Option Reply → SequenceNumber
number_after n None = n
number_after n (Some (ForItself m)) = m
number_after n (Some (ByRow r)) = n

-- States that the reply x to the destination q has the frames of the rules, and leaves the own number of the rules.
pub record RepliesTo (t : List ℕ) (a : Arrival) (p : PathInfo) (n : SequenceNumber) (q : Target) (x : Option Reply) : Type 0 where
  pub number : (answered t a p n q).number ≡ number_after n x
  pub replies : (answered t a p n q).replies ≡ frames_of a p (own t) x

-- Returns the own number, the count of replies and the place after them, once the replies of x are written after `before`.
abbrev pub replied_after : Replied → Answered → Replied
replied_after before x =
    record {
      number = x.number;
      frames = before.frames + length x.replies;
      place = before.place + length (frame_octets x.replies);
    }

-- Returns the own number, the count of replies and the place after them, if the replies of x start at place `at`.
abbrev pub replied_from : ℕ → Answered → Replied
replied_from at x =
    record { number = x.number; frames = length x.replies; place = at + length (frame_octets x.replies) }
