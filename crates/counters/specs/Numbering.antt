-- Defines how a point's counters advance when it numbers a new element. PROTOCOL, 'Counters'.
use Rattle.std.specs.Prelude.{Bool, cond}
use Rattle.counters.specs.Numbers.{next_number, next_request}
use Rattle.counters.specs.declared.own.OwnCounters.{OwnCounters}

-- A new element takes the point's next own number. A new RREQ also takes the next request ID.
unfoldable pub advanced_for : (is_rreq : Bool) → OwnCounters → OwnCounters
advanced_for is_rreq c =
    record { number = next_number c.number; request = cond is_rreq (next_request c.request) c.request }
