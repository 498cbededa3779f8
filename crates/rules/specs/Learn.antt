-- Defines steps 1 and 2. From a RANN, RREQ or RREP a point learns a path to the subject and a path to the transmitter. The
-- subject is the originator of a RANN or a RREQ, the destination of a RREP. PROTOCOL, 'Learning'.
use Rattle.std.specs.Prelude.{ℕ, ◌+◌, ◌-◌, ◌^◌, ◌<◌, ◌≤◌, Bool, true, ◌&&◌, ◌||◌, cond, List, eqb, leb, ltb, Option, None, Some}
use Rattle.counters.specs.declared.Metric.{Metric}
use Rattle.counters.specs.declared.HopCount.{HopCount}
use Rattle.layout.specs.declared.address.Address.{Address}
use Rattle.layout.specs.declared.row.Row.{Row}
use Rattle.layout.specs.Address.{same}
use Rattle.layout.specs.Row.{active, renewed, numbered}
use Rattle.table.specs.Table.{row_for, store}
use Rattle.element.specs.declared.PathInfo.{PathInfo}
use Rattle.rules.specs.declared.Arrival.{Arrival}

-- The metric of the path from this point: received metric + link metric.
abbrev pub metric_here : Arrival → PathInfo → Metric
metric_here a p = record { 0 = p.metric.0 + a.link.0 }

-- The hop count of the path from this point: received hop count + 1.
abbrev pub hops_here : PathInfo → HopCount
hops_here p = record { 0 = p.hops.0 + 1 }

-- The largest metric of a path that a point learns. Refusal 13 refuses a larger metric.
abbrev pub max_metric : ℕ
max_metric = 2 ^ 32 - 2

-- The largest hop count that a row can have. Refusal 12 refuses an element that already has it.
abbrev pub max_hops : ℕ
max_hops = 255

-- States that a path can be one link longer. It holds once refusals 12 and 13 are passed, and functions require it.
pub record Extends (a : Arrival) (p : PathInfo) : Type 0 where
  pub metric : (metric_here a p).0 ≤ max_metric
  pub hops : p.hops.0 < max_hops

-- The row that step 1 or 2 fills in when the destination has no row. Its number is unknown.
abbrev pub new_row : Address → Row
new_row d =
    record {
      status = 0;
      known = 0;
      hops = record { 0 = 0 };
      zero = 0;
      destination = d;
      next = record { 0 = 0 };
      number = record { 0 = 0 };
      metric = record { 0 = 0 };
      expiry = 0;
    }

-- Returns the row that a step makes or changes: the row held for the destination, or a new row if none is held.
abbrev pub row_or_new : Address → Option Row → Row
row_or_new d (Some r) = r
row_or_new d None = new_row d

-- The expiry is clock + lifetime, or the stored expiry if the row was active before this step and its stored expiry is larger.
unfoldable pub expiry_of : ℕ → ℕ → Row → ℕ
expiry_of c lifetime r = cond (active c r && ltb (c + lifetime) r.expiry) r.expiry (c + lifetime)

-- Step 1. The subject's row becomes valid. Its next hop is the transmitter. Its number is the received number, which is then
-- known. Its metric is received metric + link metric, its hop count is received hop count + 1, and its expiry is `expiry_of`.
unfoldable pub subject_row : Arrival → PathInfo → Row → Row
subject_row a p r =
    numbered p.number (renewed a.transmitter (metric_here a p) (hops_here p) (expiry_of a.clock p.lifetime r) r)

-- Step 2. A row that is made or changed becomes valid, with the transmitter as its next hop, the link metric as its metric, hop
-- count 1, and an expiry as in step 1. If the row was held, its number and 'number known' stay.
unfoldable pub transmitter_row : Arrival → ℕ → Row → Row
transmitter_row a lifetime r = renewed a.transmitter a.link (record { 0 = 1 }) (expiry_of a.clock lifetime r) r

-- Reports whether step 2 changes the row held for the transmitter. An active row is changed if the link metric is below its
-- metric. A row that is not active is changed if its number is unknown, or the link metric is at most its metric. Otherwise the
-- row stays as it is, expiry included.
abbrev pub row_takes_link : Arrival → Row → Bool
row_takes_link a r =
    cond (active a.clock r) (ltb a.link.0 r.metric.0) (eqb r.known 0 || leb a.link.0 r.metric.0)

-- Reports whether step 2 makes or changes the transmitter's row. An absent row is always made.
unfoldable pub takes_link : Arrival → Option Row → Bool
takes_link a None = true
takes_link a (Some r) = row_takes_link a r

-- Returns the table t after step 1.
unfoldable pub subject_learnt : Arrival → PathInfo → List ℕ → List ℕ
subject_learnt a p t = store t (subject_row a p (row_or_new p.subject (row_for t p.subject)))

-- Returns the table t after step 2.
unfoldable pub transmitter_learnt : Arrival → ℕ → List ℕ → List ℕ
transmitter_learnt a lifetime t =
    cond (takes_link a (row_for t a.transmitter))
    (store t (transmitter_row a lifetime (row_or_new a.transmitter (row_for t a.transmitter)))) t

-- Returns the table t after both steps. Step 2 applies only if the transmitter is not the subject. If both steps make a row, the
-- subject's row takes the free row of lowest place, and the transmitter's row takes the free row of the next lowest place.
unfoldable pub learnt : Arrival → PathInfo → List ℕ → List ℕ
learnt a p t =
    cond (same a.transmitter p.subject) (subject_learnt a p t) (transmitter_learnt a p.lifetime (subject_learnt a p t))
