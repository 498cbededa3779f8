-- Defines the replies to a RREQ. The point takes the destinations in order. Each destination may bring a reply, and is kept or
-- struck out. PROTOCOL, 'Replies'.
use Rattle.std.specs.Prelude.{ℕ, Bool, not, ◌&&◌, ◌||◌, cond, List, [], ◌∷◌, ◌++◌, eqb, Option, None, Some}
use Rattle.counters.specs.declared.SequenceNumber.{SequenceNumber}
use Rattle.counters.specs.declared.Metric.{Metric}
use Rattle.counters.specs.declared.HopCount.{HopCount}
use Rattle.counters.specs.Numbers.{next_number, newer, older}
use Rattle.layout.specs.declared.address.Address.{Address}
use Rattle.layout.specs.declared.row.Row.{Row}
use Rattle.layout.specs.Address.{same}
use Rattle.layout.specs.Row.{active}
use Rattle.table.specs.Table.{own, row_for}
use Rattle.element.specs.declared.PathInfo.{PathInfo}
use Rattle.element.specs.declared.Target.{Target}
use Rattle.element.specs.declared.RrepFields.{RrepFields}
use Rattle.element.specs.Element.{rrep}
use Rattle.element.specs.Lists.{all_ones}
use Rattle.element.specs.Flags.{reply_wanted, has_do, has_rf, number_unknown, with_do}
use Rattle.rules.specs.Exit.{Frame, initial_ttl}
use Rattle.rules.specs.declared.Arrival.{Arrival}

-- The result for some destinations: the own number afterwards, the replies, and the destinations that are kept.
pub record Answered : Type 0 where
  pub number : SequenceNumber
  pub replies : List Frame
  pub kept : List Target

-- The fixed fields of a reply: flags 0 and TTL 31, the lifetime of the RREQ, and as source and source number the originator of
-- the RREQ and its number.
abbrev pub reply_fields : PathInfo → Address → SequenceNumber → HopCount → Metric → RrepFields
reply_fields p destination number hops metric =
    record {
      path = record {
        flags = 0;
        hops = hops;
        ttl = initial_ttl;
        subject = destination;
        number = number;
        lifetime = p.lifetime;
        metric = metric;
      };
      source = record { address = p.subject; number = p.number };
    }

-- Every reply is a RREP to the transmitter, without dependents.
unfoldable pub reply : Arrival → PathInfo → Address → SequenceNumber → HopCount → Metric → Frame
reply a p destination number hops metric =
    record { receiver = a.transmitter; element = rrep (reply_fields p destination number hops metric) [] }

-- The reply of a point for itself: own address and number, hop count 0, metric 0.
abbrev pub own_reply : Arrival → PathInfo → Address → SequenceNumber → Frame
own_reply a p self number = reply a p self number (record { 0 = 0 }) (record { 0 = 0 })

-- An intermediate reply: the row's destination, number, hop count and metric.
abbrev pub row_reply : Arrival → PathInfo → Row → Frame
row_reply a p r = reply a p r.destination r.number r.hops r.metric

-- Returns the requested number if it is not marked unknown and newer than the own number, otherwise the own number.
abbrev pub newer_of : SequenceNumber → Target → SequenceNumber
newer_of self q = cond (not (number_unknown q) && newer q.number self) q.number self

-- The point sets its own number to the requested number if that is not marked unknown and newer, and then steps its own number.
unfoldable pub answered_number : SequenceNumber → Target → SequenceNumber
answered_number self q = next_number (newer_of self q)

-- Reports whether the point sends an intermediate reply from a row: DO = 0, the row is active and of known number, and the
-- requested number is marked unknown or the row's number is not older than it.
unfoldable pub answers_for : ℕ → Target → Row → Bool
answers_for c q r =
    not (has_do q) && active c r && eqb r.known 1 && (number_unknown q || not (older r.number q.number))

-- The point does nothing, and the destination is kept unchanged.
abbrev pub kept_on : SequenceNumber → Target → Answered
kept_on n q = record { number = n; replies = []; kept = q ∷ [] }

-- After an intermediate reply the destination is kept with DO set if RF = 1, and struck out if RF = 0.
abbrev pub kept_after_reply : Target → List Target
kept_after_reply q = cond (has_rf q) (with_do q ∷ []) []

-- Below, t is the table as steps 1 and 2 left it, and n is the own number so far.
module _ (t : List ℕ) (a : Arrival) (p : PathInfo) where
  -- The own address: the point replies for itself under `answered_number`, and strikes the destination out.
  unfoldable pub for_oneself : SequenceNumber → Target → Answered
  for_oneself n q =
      let next : SequenceNumber = answered_number n q in
      record { number = next; replies = own_reply a p (own t) next ∷ []; kept = [] }

  -- All ones: if the RREQ has 'reply wanted', the point steps its own number and replies for itself. The destination is kept.
  unfoldable pub for_all_ones : SequenceNumber → Target → Answered
  for_all_ones n q =
      cond (reply_wanted p)
      (record { number = next_number n; replies = own_reply a p (own t) (next_number n) ∷ []; kept = q ∷ [] })
      (kept_on n q)

  -- Another destination: the point sends an intermediate reply if `answers_for` holds, otherwise it does nothing.
  unfoldable pub for_another : SequenceNumber → Target → Option Row → Answered
  for_another n q None = kept_on n q
  for_another n q (Some r) =
      cond (answers_for a.clock q r)
      (record { number = n; replies = row_reply a p r ∷ []; kept = kept_after_reply q })
      (kept_on n q)

  unfoldable pub answered : SequenceNumber → Target → Answered
  answered n q =
      cond (same q.address (own t)) (for_oneself n q)
      (cond (same q.address all_ones) (for_all_ones n q) (for_another n q (row_for t q.address)))

  -- Takes the destinations in order.
  unfoldable pub all_answered : SequenceNumber → List Target → Answered
  all_answered n [] = record { number = n; replies = []; kept = [] }
  all_answered n (q ∷ qs) =
      let this : Answered = answered n q in
      let rest : Answered = all_answered this.number qs in
      record { number = rest.number; replies = this.replies ++ rest.replies; kept = this.kept ++ rest.kept }
