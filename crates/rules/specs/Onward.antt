-- Defines which elements the point forwards, and to whom. PROTOCOL, 'Forwarding'.
use Rattle.std.specs.Prelude.{ℕ, ◌-◌, cond, List, [], ◌∷◌, ltb, Option, None, Some}
use Rattle.layout.specs.declared.address.Address.{Address}
use Rattle.layout.specs.declared.row.Row.{Row}
use Rattle.layout.specs.Address.{same}
use Rattle.table.specs.Table.{own, row_for, active_next}
use Rattle.element.specs.declared.PathInfo.{PathInfo}
use Rattle.element.specs.declared.NumberedAddress.{NumberedAddress}
use Rattle.element.specs.declared.Target.{Target}
use Rattle.element.specs.declared.RreqFields.{RreqFields}
use Rattle.element.specs.declared.RrepFields.{RrepFields}
use Rattle.element.specs.Element.{Element, rann, rreq, rrep}
use Rattle.element.specs.Lists.{all_ones}
use Rattle.element.specs.Flags.{unicast}
use Rattle.rules.specs.Exit.{Frame}
use Rattle.rules.specs.declared.Arrival.{Arrival}
use Rattle.rules.specs.Learn.{metric_here, hops_here}

-- The three changes of a forwarded element: hop count + 1, TTL - 1, metric + link metric. Everything else stays as received.
unfoldable pub onward : Arrival → PathInfo → PathInfo
onward a p =
    record {
      flags = p.flags;
      hops = hops_here p;
      ttl = p.ttl - 1;
      subject = p.subject;
      number = p.number;
      lifetime = p.lifetime;
      metric = metric_here a p;
    }

-- Returns the frame that sends the element to the receiver, or no frame if there is no receiver.
abbrev pub sent_to : Element → Option Address → List Frame
sent_to e None = []
sent_to e (Some to) = record { receiver = to; element = e } ∷ []

abbrev pub to_all : Element → List Frame
to_all e = sent_to e (Some all_ones)

-- Returns the frame to the next hop of the row if the row is there and active, otherwise no frame.
abbrev pub towards : ℕ → Element → Option Row → List Frame
towards c e row = sent_to e (active_next c row)

-- Returns the frames if the received TTL is at least 2, otherwise no frame.
abbrev pub if_ttl_left : PathInfo → List Frame → List Frame
if_ttl_left p frames = cond (ltb p.ttl 2) [] frames

-- The point forwards a RANN to all ones if its TTL is at least 2.
unfoldable pub rann_onward : Arrival → PathInfo → List Frame
rann_onward a p = if_ttl_left p (to_all (rann (onward a p)))

-- Below, t is the table as steps 1 and 2 left it.
module _ (t : List ℕ) (a : Arrival) where
  -- The point forwards a RREQ with the kept destinations if its TTL is at least 2 and a destination is kept. A RREQ that is not
  -- unicast goes to all ones. A unicast RREQ goes to the next hop of the active row for its destination, if there is an active
  -- row. By refusal 10 a unicast RREQ has one destination.
  unfoldable pub rreq_onward : RreqFields → List Target → List Frame
  rreq_onward f [] = []
  rreq_onward f (q ∷ qs) =
      let e : Element = rreq (record { request = f.request; path = onward a f.path }) (q ∷ qs) in
      if_ttl_left f.path (cond (unicast f.path) (towards a.clock e (row_for t q.address)) (to_all e))

  -- The point forwards a RREP to the next hop of the active row for its source, if the source is not this point and there is an
  -- active row. By refusal 14 its TTL is at least 2.
  unfoldable pub rrep_onward : RrepFields → List NumberedAddress → List Frame
  rrep_onward f dependents =
      cond (same f.source.address (own t)) []
      (towards a.clock (rrep (record { path = onward a f.path; source = f.source }) dependents)
      (row_for t f.source.address))
