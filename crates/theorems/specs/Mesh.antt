-- Defines a mesh of points, the elements that the points have sent, and lists of their calls. PROTOCOL, 'Demands'. What is
-- defined here:
--   Point, Sent, Mesh, start                a point; an element sent; what all points lend, with the log; the mesh at the start
--   Action, Event, call_of, walk_over       what a point does; one call of a list; the call that may write; a walk over all
--   points_fit, event_fits                  what demand 3 asks of points and of operands
--   after_call, happen, run, throughout     the mesh after a call, an event and a list of events; a test passed all along
--   valid_next, next_at, met                the next hop of a valid row; the points that the walk along valid rows meets
use Rattle.rules.specs.Lists.{all}
use Rattle.std.specs.Prelude.{ℕ, zero, suc, ◌+◌, ◌*◌, ◌^◌, Bool, true, ◌&&◌, not, cond, eqb, leb, ltb, length, Err, Ok}
use Rattle.std.specs.Prelude.{Option, None, Some, is_some, slice_get}
use mathlib.Core.List.{List, [], ◌∷◌, ◌++◌, map, flat_map}
use Rattle.counters.specs.declared.SequenceNumber.{SequenceNumber}
use Rattle.counters.specs.declared.Metric.{Metric}
use Rattle.layout.specs.declared.address.Address.{Address}
use Rattle.layout.specs.declared.row.Row.{Row}
use Rattle.layout.specs.Address.{individual, same}
use Rattle.table.specs.Table.{own, row_for, fresh}
use Rattle.element.specs.Octets.{write_element}
use Rattle.element.specs.Lists.{has_duplicate}
use Rattle.rules.specs.Decision.{Decision}
use Rattle.rules.specs.Exit.{Frame, Lent, lend, Effect}
use Rattle.rules.specs.Calls.{OwnCall, asks, announces, requests_as_root, breaks, Call}
use Rattle.rules.specs.Walk.{Walked, walk}

-- ---- points, and what they have sent

-- A point at the start: its address, its own number, and how many rows its table has.
pub record Point : Type 0 where
  pub address : Address
  pub number : SequenceNumber
  pub rows : ℕ

-- An element that a point has sent: the octets of the element, and the address of the point.
pub record Sent : Type 0 where
  pub sender : Address
  pub octets : List ℕ

-- `boxes` is what each point lends to its calls, one `Lent` for each point. `log` is all elements sent so far, the oldest
-- first.
pub record Mesh : Type 0 where
  pub boxes : List Lent
  pub log : List Sent

-- Returns the table that a point starts with: a fresh table with its address and number.
abbrev pub fresh_table : Point → List ℕ
fresh_table p = fresh (32 + 32 * p.rows) p.address p.number

-- Returns what a point lends at the start: its fresh table.
abbrev pub fresh_box : Point → Lent
fresh_box p = lend (fresh_table p)

-- Returns the mesh at the start: every table is fresh, and nothing has been sent.
unfoldable pub start : List Point → Mesh
start points = record { boxes = map fresh_box points; log = [] }

-- Returns what the point with own address a lends, or none if there is no point a.
unfoldable pub box_of : Address → List Lent → Option Lent
box_of a [] = None
box_of a (l ∷ boxes) = cond (same (own l.table) a) (Some l) (box_of a boxes)

-- Returns the list with k in place of what the point with own address a lends.
unfoldable pub with_box : Address → Lent → List Lent → List Lent
with_box a k [] = []
with_box a k (l ∷ boxes) = cond (same (own l.table) a) (k ∷ boxes) (l ∷ with_box a k boxes)

-- ---- calls

-- What a point does:
--   delivers        It receives the element at a place of the log, counted from 0. The transmitter is the sender of the element.
--                   A list of calls may name places in any order, some places often and some never.
--   makes           It asks, announces, sends a root request or reports a broken neighbour.
--   finds_next_hop  It finds a next hop, which writes no table.
--   walks           It walks over the tables of all points as they are at that moment, which writes no table.
pub data Action : Type 0 where
  delivers : (place clock : ℕ) → (link : Metric) → Action
  makes : OwnCall → Action
  finds_next_hop : (clock : ℕ) → (destination : Address) → Action
  walks : (clock : ℕ) → (from destination : Address) → Action

-- One call of a list: the address of the calling point, the length of its output, and what it does.
pub record Event : Type 0 where
  pub point : Address
  pub room : ℕ
  pub action : Action

-- Returns the call that receives an element of the log at clock c, or none if there is no element.
abbrev pub delivery_of : ℕ → Metric → Option Sent → Option Call
delivery_of c link None = None
delivery_of c link (Some s) = Some (Call.receives (record { clock = c; transmitter = s.sender; link = link }) s.octets)

-- Returns the call that may write the table of the point. There is none if the log has no element at the place. There is none
-- for a next hop or a walk either: `next_hop` and `walk` of crate `rules` leave no table.
unfoldable pub call_of : List Sent → Action → Option Call
call_of log (delivers place c link) = delivery_of c link (slice_get log place)
call_of log (makes call) = Some (Call.makes call)
call_of log (finds_next_hop c d) = None
call_of log (walks c from d) = None

-- Returns the decision on a walk over the tables of all points, side by side in the order of the points.
unfoldable pub walk_over : Mesh → ℕ → Address → Address → Decision Walked
walk_over m c from d = walk (flat_map (λ (l : Lent). l.table) m.boxes) (length m.boxes) c from d

-- ---- points and operands, as demand 3 asks for them

-- Reports whether a point has an individual address of six octets, an own number of four octets, and 1 to 128 rows.
unfoldable pub point_fits : Point → Bool
point_fits p =
    individual p.address && ltb p.address.0 (256 ^ 6)
    && ltb p.number.0 (256 ^ 4) && leb 1 p.rows && leb p.rows 128

-- Reports whether every point fits and no two points have equal addresses.
unfoldable pub points_fit : List Point → Bool
points_fit points = all point_fits points && not (has_duplicate (map (λ (p : Point). p.address) points))

-- The next tests report whether C's types can hold the operands: a lifetime has 32 bits, and an octet of an ask is below 256.
-- The other operands may be any numbers.
abbrev pub lifetime_fits : ℕ → Bool
lifetime_fits lifetime = ltb lifetime (256 ^ 4)

unfoldable pub own_call_fits : OwnCall → Bool
own_call_fits (asks lifetime items) = lifetime_fits lifetime && all (λ octet. ltb octet 256) items
own_call_fits (announces flags lifetime) = lifetime_fits lifetime
own_call_fits (requests_as_root flags lifetime) = lifetime_fits lifetime
own_call_fits (breaks c neighbour) = true

unfoldable pub action_fits : Action → Bool
action_fits (delivers place c link) = true
action_fits (makes call) = own_call_fits call
action_fits (finds_next_hop c d) = true
action_fits (walks c from d) = true

abbrev pub event_fits : Event → Bool
event_fits e = action_fits e.action

-- ---- a list of calls

-- Returns the elements of the frames that the point a emits, as they stand in the log.
unfoldable pub sent_by : Address → List Frame → List Sent
sent_by a frames = map (λ (f : Frame). record { sender = a; octets = write_element f.element }) frames

-- Returns the mesh after a call of the point a. A refused call changes nothing. An accepted call replaces what the point lends,
-- and adds the elements of its frames to the end of the log.
unfoldable pub after_call : Mesh → Address → Decision Effect → Mesh
after_call m a (Err n) = m
after_call m a (Ok e) = record { boxes = with_box a e.lent m.boxes; log = m.log ++ sent_by a e.frames }

-- Rules by which points act: the decision on a call, given what the call is lent and the length of its output. `LoopFree` is
-- about the rules of `docs/PROTOCOL.md`, `decision` of crate `rules`. Each counterexample of `Runs.antt` is about wrong rules.
abbrev pub Rules : Type 0
Rules = Lent → ℕ → Call → Decision Effect

module _ (rules : Rules) where
  -- Returns the mesh after a call. The mesh stays as it was if the point lends nothing, because it is no point of the mesh, or if
  -- there is no call.
  abbrev pub calls : Mesh → Event → Option Lent → Option Call → Mesh
  calls m e None call = m
  calls m e (Some l) None = m
  calls m e (Some l) (Some call) = after_call m e.point (rules l e.room call)

  -- Returns the mesh after one event: the point with the address of the event, if there is one, makes the call.
  unfoldable pub happen : Mesh → Event → Mesh
  happen m e = calls m e (box_of e.point m.boxes) (call_of m.log e.action)

-- Events one after another. `happens` returns the mesh after one event. Under the rules it is `happen decision`.
module _ {K : Type 0} (happens : Mesh → K → Mesh) where
  -- Returns the mesh after a list of events, from first to last.
  unfoldable pub run : Mesh → List K → Mesh
  run m [] = m
  run m (e ∷ events) = run (happens m e) events

  -- Reports whether the mesh passes the test before the first event and after each event.
  unfoldable pub throughout : (Mesh → Bool) → Mesh → List K → Bool
  throughout test m [] = test m
  throughout test m (e ∷ events) = test m && throughout test (happens m e) events

-- ---- the walk of demand 3

-- The walk of demand 3 follows valid rows, expired or not. The call walk (PROTOCOL, 'Walk'; `walk` in crate `rules`) follows
-- rows that are active at a clock, and counts hops.

-- Returns the next hop of a row that is there and valid, or none.
abbrev pub valid_next : Option Row → Option Address
valid_next None = None
valid_next (Some r) = cond (eqb r.status 1) (Some r.next) None

module _ (m : Mesh) (d : Address) where
  -- Returns the next hop of the valid row for d in the table of a point, or none.
  abbrev pub next_in : Option Lent → Option Address
  next_in None = None
  next_in (Some l) = valid_next (row_for l.table d)

  -- Returns the next hop of the valid row for d in the table of the point a, or none.
  unfoldable pub next_at : Address → Option Address
  next_at a = next_in (box_of a m.boxes)

  -- Returns what a walk meets from this next hop on, or nothing if there is no next hop.
  abbrev pub met_by : Option Address → (Address → List Address) → List Address
  met_by None further = []
  met_by (Some b) further = further b

  -- Returns the points that a walk from a towards d meets in at most this many hops, a included. The walk ends at a point
  -- without a valid row for d, and before a next hop that is no point. It ends at d too, because d has no row for itself.
  unfoldable pub met : (hops : ℕ) → Address → List Address
  met zero a = cond (is_some (box_of a m.boxes)) (a ∷ []) []
  met (suc hops) a = cond (is_some (box_of a m.boxes)) (a ∷ met_by (next_at a) (met hops)) []
