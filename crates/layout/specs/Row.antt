-- Defines the head and the rows of a table as values: which are legal, and the steps that change them. PROTOCOL, 'Table'. What is
-- defined here:
--   fresh_head, head_with, head_ok        the head of a fresh table; a head with other counters and clock; a legal head
--   free_row, is_free, is_held, row_ok    a free row; a legal row that is free, that is held, that is either
--   active, is_through                    a valid row that has not expired; an active row with a given next hop
--   renewed, numbered                     what steps 1 and 2 of receiving do to a row
--   invalidated, raised                   what a RERR or a break does to a row
use Rattle.std.specs.Prelude.{ℕ, ◌+◌, ◌-◌, ◌^◌, Bool, ◌&&◌, ◌||◌, not, eqb, leb, ltb}
use Rattle.counters.specs.declared.SequenceNumber.{SequenceNumber}
use Rattle.counters.specs.declared.RequestId.{RequestId}
use Rattle.counters.specs.declared.Metric.{Metric}
use Rattle.counters.specs.declared.HopCount.{HopCount}
use Rattle.layout.specs.declared.address.Address.{Address}
use Rattle.layout.specs.declared.row.Head.{Head}
use Rattle.layout.specs.declared.row.Row.{Row}
use Rattle.layout.specs.Address.{individual, same}
use Rattle.layout.specs.Layout.{all_zero, row_numbers}

-- ---- limits

-- The largest clock.
abbrev pub max_clock : ℕ
max_clock = 2 ^ 48 - 1

-- The largest expiry of a row.
abbrev pub max_expiry : ℕ
max_expiry = 2 ^ 48 + 2 ^ 32

-- The metric that a row takes together with a newer number from a RERR, or with a stepped number in a break.
abbrev pub unreachable : Metric
unreachable = record { 0 = 2 ^ 32 - 1 }

-- ---- the head

-- Returns the head of a fresh table, which has the given address and number, and zero everywhere else.
abbrev pub fresh_head : Address → SequenceNumber → Head
fresh_head own number = record { own = own; zero2 = 0; number = number; request = record { 0 = 0 }; clock = 0; zero8 = 0 }

-- Returns the head h with the given own number, request ID and latest clock.
unfoldable pub head_with : SequenceNumber → RequestId → ℕ → Head → Head
head_with number request clock h =
    record { own = h.own; zero2 = h.zero2; number = number; request = request; clock = clock; zero8 = h.zero8 }

unfoldable pub head_ok : Head → Bool
head_ok h = individual h.own && (eqb h.zero2 0 && leb h.clock max_clock && eqb h.zero8 0)

-- ---- rows

abbrev pub free_row : Row
free_row =
    record {
      status = 0;
      known = 0;
      hops = record { 0 = 0 };
      zero = 0;
      destination = record { 0 = 0 };
      next = record { 0 = 0 };
      number = record { 0 = 0 };
      metric = record { 0 = 0 };
      expiry = 0;
    }

-- A free row is zero in all 32 octets.
unfoldable pub is_free : Row → Bool
is_free r = all_zero (row_numbers r)

-- Reports whether the number is 0, the hop count is 1, and the next hop equals the destination. Refusal 21 asks it of a row whose
-- number is not known.
unfoldable pub is_unnumbered : Row → Bool
is_unnumbered r = eqb r.number.0 0 && eqb r.hops.0 1 && same r.next r.destination

-- Reports whether a is an individual address other than the own address.
unfoldable pub is_other : Address → Address → Bool
is_other own a = individual a && not (same a own)

-- Reports whether the status is 1 or 2, number known is 0 or 1, and the zero octet is zero.
unfoldable pub status_ok : Row → Bool
status_ok r = leb 1 r.status && leb r.status 2 && leb r.known 1 && eqb r.zero 0

-- Reports whether the metric is at least 1, and the expiry is at most 2^48 + 2^32.
unfoldable pub bounds_ok : Row → Bool
bounds_ok r = leb 1 r.metric.0 && leb r.expiry max_expiry

-- Reports whether r is a legal held row in the table of the point with address `own`.
unfoldable pub is_held : Address → Row → Bool
is_held own r =
    status_ok r && is_other own r.destination && is_other own r.next && bounds_ok r
    && (eqb r.known 1 || is_unnumbered r)

unfoldable pub row_ok : Address → Row → Bool
row_ok own r = is_free r || is_held own r

-- A row is active at clock c if its status is 1 and c is below its expiry.
unfoldable pub active : ℕ → Row → Bool
active c r = eqb r.status 1 && ltb c r.expiry

-- Reports whether r is active at clock c and has `hop` as its next hop.
unfoldable pub is_through : ℕ → Address → Row → Bool
is_through c hop r = active c r && same r.next hop

-- ---- steps that take a row and give it back

-- Makes the row valid with the given next hop, metric, hop count and expiry. The number and 'number known' stay.
unfoldable pub renewed : Address → Metric → HopCount → ℕ → Row → Row
renewed next metric hops expiry r =
    record {
      status = 1;
      known = r.known;
      hops = hops;
      zero = r.zero;
      destination = r.destination;
      next = next;
      number = r.number;
      metric = metric;
      expiry = expiry;
    }

-- Gives the row a number, which is then known.
unfoldable pub numbered : SequenceNumber → Row → Row
numbered number r =
    record {
      status = r.status;
      known = 1;
      hops = r.hops;
      zero = r.zero;
      destination = r.destination;
      next = r.next;
      number = number;
      metric = r.metric;
      expiry = r.expiry;
    }

-- Invalidates the row: sets its status to 2. All its other fields stay.
unfoldable pub invalidated : Row → Row
invalidated r =
    record {
      status = 2;
      known = r.known;
      hops = r.hops;
      zero = r.zero;
      destination = r.destination;
      next = r.next;
      number = r.number;
      metric = r.metric;
      expiry = r.expiry;
    }

-- Gives the row a number and metric 4,294,967,295.
unfoldable pub raised : SequenceNumber → Row → Row
raised number r =
    record {
      status = r.status;
      known = r.known;
      hops = r.hops;
      zero = r.zero;
      destination = r.destination;
      next = r.next;
      number = number;
      metric = unreachable;
      expiry = r.expiry;
    }
