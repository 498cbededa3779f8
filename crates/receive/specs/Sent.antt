-- Defines what the point sends for a RREQ, while the code writes it. Only contracts of the code use the definitions of this file.
-- The frames are those of `rreq_received`.
use Rattle.std.specs.Prelude.{ℕ, ◌+◌, ◌-◌, List, ◌++◌}
use Rattle.element.specs.declared.RreqFields.{RreqFields}
use Rattle.rules.specs.declared.Arrival.{Arrival}
use Rattle.rules.specs.Destinations.{Answered}
use Rattle.rules.specs.Onward.{rreq_onward}
use Rattle.rules.specs.Exit.{Frame}
use Rattle.calls.specs.declared.Emitted.{Emitted}
use Rattle.calls.specs.Answers.{emitted}
use Rattle.destinations.specs.declared.replies.Replied.{Replied}
use Rattle.receive.specs.declared.request.Sent.{Sent}

-- Returns all that is sent: the replies, which start at place `at`, and the RREQ that is forwarded after them.
abbrev pub together : ℕ → Replied → Emitted → Sent
together at replied onward =
    record {
      number = replied.number;
      emitted = record { frames = replied.frames + onward.frames; octets = replied.place - at + onward.octets };
    }

-- Returns the replies, and after them the RREQ with the kept destinations.
unfoldable pub frames_after : List ℕ → Arrival → RreqFields → Answered → List Frame
frames_after t a f x = x.replies ++ rreq_onward t a f x.kept

abbrev pub sent_for : List ℕ → Arrival → RreqFields → Answered → Sent
sent_for t a f x = record { number = x.number; emitted = emitted (frames_after t a f x) }
