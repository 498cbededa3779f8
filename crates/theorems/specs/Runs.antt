-- Defines runs as data, and tests of them that compute. Three runs have everything that demand 3 asks for and find their way.
-- Eight runs loop: five under wrong rules, two with a call that demand 3 leaves out, and one outside the premise of demand 3.
-- What is defined here:
--   ◌gets◌over◌at◌, ◌asks_for◌lasting◌, ..        events, in words
--   Run                                           points, events and a destination
--   way, end_of, as_demanded, goes_round          the walk of a run; its last mesh; what demand 3 asks for; whether the run loops
--   lines                                         the answers to the events of a run, as in the bench's lines
--   worked_case, worked; round_zero, went_round;  the three runs that find their way, each with its tests
--   unheard_of, found_unheard_of
--   Counterexample, loops, counterexamples        the runs that loop under wrong rules
--   WiderEvent, happen_wider, left_out            the runs with a forget or a second fresh table
--   outside, outside_loops                        the run outside the premise
--
-- Comments in the runs name elements by their place in the log: 'A forwards 1' says that the element that A forwards is element
-- 1. 'A 1/5 via D' says that the row of A for D now has number 1, metric 5 and next hop D. 'largest' is the metric
-- 4,294,967,295.
use Rattle.refusals.specs.Numbers.{number_of}
use Rattle.rules.specs.Lists.{all}
use Rattle.std.specs.Prelude.{ℕ, ◌+◌, ◌-◌, ◌*◌, ◌^◌, Bool, true, false, ◌&&◌, List, [], ◌∷◌, ◌++◌, map, eqb, ltb, length}
use Rattle.std.specs.Prelude.{take, Err, Ok, Option, None, Some}
use Rattle.octets.specs.LittleEndian.{number_octets}
use Rattle.counters.specs.declared.SequenceNumber.{SequenceNumber}
use Rattle.layout.specs.declared.address.Address.{Address}
use Rattle.layout.specs.Address.{same}
use Rattle.element.specs.Lists.{has_duplicate}
use Rattle.rules.specs.Decision.{Decision}
use Rattle.rules.specs.Exit.{Lent, lend, with_table, Effect, Exit, at_exit, least_output}
use Rattle.rules.specs.Fresh.{make_fresh}
use Rattle.rules.specs.Forget.{forget}
use Rattle.rules.specs.NextHop.{next_hop}
use Rattle.rules.specs.Calls.{Call, asks, announces, requests_as_root, breaks, decision}
use Rattle.rules.specs.Walk.{Walked, walked_at_exit}
use Rattle.theorems.specs.Mesh.{
  Rules,
  Point,
  Mesh,
  start,
  box_of,
  with_box,
  Action,
  delivers,
  makes,
  finds_next_hop,
  walks,
  Event,
  call_of,
  walk_over,
  points_fit,
  event_fits,
  happen,
  run,
  throughout,
  met,
}
use Rattle.theorems.specs.Premise.{held_by_all, all_within}
use Rattle.theorems.specs.WrongRules.{compares_plainly, takes_equal_replies, takes_equal_if_inactive, drops_broken, keeps_number}

-- ---- points and events

-- Returns the address 2,0,0,0,0,i + 1.
abbrev pub point : ℕ → Address
point i = record { 0 = 2 + (i + 1) * 2 ^ 40 }

abbrev pub A : Address
A = point 0

abbrev pub B : Address
B = point 1

abbrev pub C : Address
C = point 2

abbrev pub D : Address
D = point 3

abbrev pub E : Address
E = point 4

-- Returns the point with address a that starts with own number n and this many rows.
abbrev pub point_with : ℕ → ℕ → Address → Point
point_with rows n a = record { address = a; number = record { 0 = n }; rows = rows }

-- The point p makes a call with an output of 1,560 octets.
abbrev pub does : Address → Action → Event
does p action = record { point = p; room = least_output; action = action }

-- p receives the element at this place of the log, over a link of this metric, at clock c.
infix 70 ◌gets◌over◌at◌
abbrev pub ◌gets◌over◌at◌ : Address → ℕ → ℕ → ℕ → Event
◌gets◌over◌at◌ p place link c = does p (delivers place c (record { 0 = link }))

-- p asks for q with flags 1 and this lifetime.
infix 70 ◌asks_for◌lasting◌
abbrev pub ◌asks_for◌lasting◌ : Address → Address → ℕ → Event
◌asks_for◌lasting◌ p q lifetime = does p (makes (asks lifetime (1 ∷ number_octets 6 q.0)))

-- p announces itself with flags 0 and lifetime 1000.
infix 70 ◌announces_itself
abbrev pub ◌announces_itself : Address → Event
◌announces_itself p = does p (makes (announces 0 1000))

-- p sends a root request with these flags and lifetime 1000.
infix 70 ◌requests_as_a_root◌
abbrev pub ◌requests_as_a_root◌ : Address → ℕ → Event
◌requests_as_a_root◌ p flags = does p (makes (requests_as_root flags 1000))

-- p reports at clock 0 that its neighbour q is broken.
infix 70 ◌loses◌
abbrev pub ◌loses◌ : Address → Address → Event
◌loses◌ p q = does p (makes (breaks 0 q))

-- p finds its next hop to q at clock 0.
infix 70 ◌seeks◌
abbrev pub ◌seeks◌ : Address → Address → Event
◌seeks◌ p q = does p (finds_next_hop 0 q)

-- p walks from itself to q over the tables of all points, at clock 0.
infix 70 ◌walks_to◌
abbrev pub ◌walks_to◌ : Address → Address → Event
◌walks_to◌ p q = does p (walks 0 p q)

-- ---- a run, and tests of a run

-- Points, a list of events, a destination with the base of its window, and the start of a walk towards the destination.
pub record Run (K : Type 0) : Type 0 where
  pub points : List Point
  pub events : List K
  pub destination : Address
  pub base : ℕ
  pub from : Address

-- Returns a run of A, B, C, D and E, each with 3 rows, and a walk from A to D. D starts with own number n, the others with 0.
abbrev pub towards_d : {K : Type 0} → (n base : ℕ) → List K → Run K
towards_d n base events =
    record {
      points = point_with 3 0 A ∷ point_with 3 0 B ∷ point_with 3 0 C ∷ point_with 3 n D ∷ point_with 3 0 E ∷ [];
      events = events;
      destination = D;
      base = base;
      from = A;
    }

-- Returns the points that the walk of demand 3 meets in the mesh m, in at most as many hops as there are points.
unfoldable pub way : {K : Type 0} → Run K → Mesh → List Address
way r m = met m r.destination (length r.points) r.from

-- `happens` returns the mesh after one event.
module _ {K : Type 0} (happens : Mesh → K → Mesh) where
  -- Returns the mesh after the first k events of a run.
  unfoldable pub after : ℕ → Run K → Mesh
  after k r = run happens (start r.points) (take k r.events)

  -- Returns the mesh after all events of a run.
  unfoldable pub end_of : Run K → Mesh
  end_of r = run happens (start r.points) r.events

  -- Reports whether a run has everything that demand 3 asks for: its points fit, its events pass the test `fits`, and the
  -- premise holds for its destination.
  unfoldable pub as_demanded : (K → Bool) → Run K → Bool
  as_demanded fits r =
      points_fit r.points && all fits r.events
      && ltb r.base (2 ^ 32) && throughout happens (all_within r.destination r.base) (start r.points) r.events

  -- Reports whether a run has everything that demand 3 asks for and its walk meets a point twice.
  unfoldable pub goes_round : (K → Bool) → Run K → Bool
  goes_round fits r = as_demanded fits r && has_duplicate (way r (end_of r))

-- Returns the numbers that the tables of the mesh m hold for the destination of a run.
unfoldable pub held_in : Run Event → Mesh → List ℕ
held_in r m = map (λ (n : SequenceNumber). n.0) (held_by_all r.destination m.boxes)

-- ---- answers, as in the lines of the bench

-- An event gives two numbers: first the answer, and then the number of frames emitted, the next hop, or the hops of a walk.

abbrev pub call_line : Decision Effect → List ℕ
call_line o = let x : Exit = at_exit (lend []) [] o in x.answer ∷ x.frames ∷ []

abbrev pub hop_line : Decision Address → List ℕ
hop_line (Err r) = number_of r ∷ 0 ∷ []
hop_line (Ok next) = 0 ∷ next.0 ∷ []

abbrev pub walk_line : Decision Walked → List ℕ
walk_line o = let w : Walked = walked_at_exit o in w.answer ∷ w.hops ∷ []

module _ (rules : Rules) where
  -- Returns the two numbers of a delivery. They are 0 and 0 if the log has no element at the place.
  abbrev pub delivery_line : Lent → ℕ → Option Call → List ℕ
  delivery_line l room None = 0 ∷ 0 ∷ []
  delivery_line l room (Some call) = call_line (rules l room call)

  -- Returns the two numbers of an action. They are 0 and 0 if there is no point with the address.
  abbrev pub line_at : Mesh → ℕ → Option Lent → Action → List ℕ
  line_at m room None action = 0 ∷ 0 ∷ []
  line_at m room (Some l) (delivers place c link) = delivery_line l room (call_of m.log (delivers place c link))
  line_at m room (Some l) (makes call) = call_line (rules l room (Call.makes call))
  line_at m room (Some l) (finds_next_hop c d) = hop_line (next_hop l.table c d)
  line_at m room (Some l) (walks c from d) = walk_line (walk_over m c from d)

  unfoldable pub lines_from : Mesh → List Event → List ℕ
  lines_from m [] = []
  lines_from m (e ∷ events) =
      line_at m e.room (box_of e.point m.boxes) e.action ++ lines_from (happen rules m e) events

  unfoldable pub lines : Run Event → List ℕ
  lines r = lines_from (start r.points) r.events

-- Reports whether two lists have equal entries in the same order.
unfoldable pub agree : {A : Type 0} → (A → A → Bool) → List A → List A → Bool
agree eq [] [] = true
agree eq [] (y ∷ ys) = false
agree eq (x ∷ xs) [] = false
agree eq (x ∷ xs) (y ∷ ys) = eq x y && agree eq xs ys

-- ---- the worked case (PROTOCOL, 'Worked case')

-- Three points with R = 16. The link of points 0 and 1 has metric 10, and the link of points 1 and 2 has metric 20.
abbrev pub worked_case : (from destination : Address) → Run Event
worked_case from destination =
    record {
      points = map (point_with 16 0) (point 0 ∷ point 1 ∷ point 2 ∷ []);
      events =
          point 0 asks_for point 2 lasting 1000
          ∷ point 1 gets 0 over 10 at 0
          ∷ point 2 gets 1 over 20 at 0
          ∷ point 1 gets 2 over 20 at 0
          ∷ point 0 gets 3 over 10 at 0
          ∷ point 0 walks_to point 2
          ∷ point 0 gets 3 over 10 at 0
          ∷ [];
      destination = destination;
      base = 0;
      from = from;
    }

abbrev pub there : Run Event
there = worked_case (point 0) (point 2)

abbrev pub back : Run Event
back = worked_case (point 2) (point 0)

unfoldable pub worked : Rules → List Bool
worked rules =
    let m : Mesh = end_of (happen rules) there in
    -- The run has everything that demand 3 asks for, with either end as the destination.
    as_demanded (happen rules) event_fits there
    ∷ as_demanded (happen rules) event_fits back
    -- The bench's lines for these calls are `4 0 1`, three times `6 0 1`, `6 0 0`, `8 0 2` and `6 25 0`.
    ∷ agree eqb (lines rules there) (0 ∷ 1 ∷ 0 ∷ 1 ∷ 0 ∷ 1 ∷ 0 ∷ 1 ∷ 0 ∷ 0 ∷ 0 ∷ 2 ∷ 25 ∷ 0 ∷ [])
    -- The walks of demand 3 meet all three points, there and back.
    ∷ agree same (way there m) (point 0 ∷ point 1 ∷ point 2 ∷ [])
    ∷ agree same (way back m) (point 2 ∷ point 1 ∷ point 0 ∷ [])
    ∷ []

-- ---- a run in which numbers pass zero

abbrev pub round_zero : Run Event
round_zero =
    towards_d (2 ^ 32 - 2) (2 ^ 32 - 6)
    -- D sends 0 with number 4,294,967,295. B 4294967295/5 via D, and B forwards 1. A 4294967295/10 via B, and A forwards 2.
    (D announces_itself
    ∷ B gets 0 over 5 at 0
    ∷ A gets 1 over 5 at 0
    -- B 0/largest, invalidated, with a newer number than D's own. The RERR is element 3.
    -- A 0/largest, invalidated, and A forwards 4.
    ∷ B loses D
    ∷ A gets 3 over 5 at 0
    ∷ A seeks D
    -- D sends 5 with number 0. B 0/7 via D, and B forwards 6.
    -- B refuses A's late element 2, because 4,294,967,295 is older than 0.
    ∷ D requests_as_a_root 0
    ∷ B gets 5 over 7 at 0
    ∷ B gets 2 over 1 at 0
    -- A 0/12 via B, and A forwards 7.
    ∷ A gets 6 over 5 at 0
    -- D sends 8 with number 1. B 1/5 via D, and B forwards 9. A 1/10 via B.
    ∷ D announces_itself
    ∷ B gets 8 over 5 at 0
    ∷ A gets 9 over 5 at 0
    ∷ A seeks D
    ∷ A walks_to D
    ∷ [])

unfoldable pub went_round : Rules → List Bool
went_round rules =
    let m : Mesh = end_of (happen rules) round_zero in
    as_demanded (happen rules) event_fits round_zero
    -- B refuses the late element 2 (25). Every other call that sends or receives emits one frame. A finds no next hop (28)
    -- while its row is invalidated, and finds B at the end. The walk has two hops.
    ∷ agree eqb (lines rules round_zero)
    (0 ∷ 1 ∷ 0 ∷ 1 ∷ 0 ∷ 1 ∷ 0 ∷ 1 ∷ 0 ∷ 1 ∷ 28 ∷ 0
    ∷ 0 ∷ 1 ∷ 0 ∷ 1 ∷ 25 ∷ 0 ∷ 0 ∷ 1 ∷ 0 ∷ 1 ∷ 0 ∷ 1 ∷ 0 ∷ 1 ∷ 0 ∷ B.0 ∷ 0 ∷ 2 ∷ [])
    -- The numbers for D that A, B and D hold after four events, after nine events, and at the end.
    ∷ agree eqb (held_in round_zero (after (happen rules) 4 round_zero)) (4_294_967_295 ∷ 0 ∷ 4_294_967_295 ∷ [])
    ∷ agree eqb (held_in round_zero (after (happen rules) 9 round_zero)) (0 ∷ 0 ∷ 0 ∷ [])
    ∷ agree eqb (held_in round_zero m) (1 ∷ 1 ∷ 1 ∷ [])
    -- The walk of demand 3 meets A, B and D.
    ∷ agree same (way round_zero m) (A ∷ B ∷ D ∷ [])
    ∷ []

-- ---- a run in which a point asks for a destination that it never heard of

abbrev pub unheard_of : Run Event
unheard_of =
    towards_d (2 ^ 31 + 1) (2 ^ 31 + 1)
    -- D sends 0 with number 2,147,483,650. A 2147483650/1 via D, and A forwards 1. B 2147483650/2 via A, and B forwards 2.
    (D announces_itself
    ∷ A gets 0 over 1 at 0
    ∷ B gets 1 over 1 at 0
    -- C knows no number for D and asks with 0, marked unknown, element 3. D just steps its own number and replies with
    -- 2,147,483,651, element 4. If 0 were compared, it would be newer, and D would reply with 1. A 2147483651/1 via D.
    ∷ C asks_for D lasting 1000
    ∷ D gets 3 over 1 at 0
    ∷ A gets 4 over 1 at 0
    -- D announces 2,147,483,652 and 2,147,483,653, elements 5 and 6. A 2147483653/1 via D, and A forwards 7.
    ∷ D announces_itself
    ∷ D announces_itself
    ∷ A gets 6 over 1 at 0
    -- A refuses B's late element 2, because 2,147,483,650 is older than 2,147,483,653.
    ∷ A gets 2 over 1 at 0
    ∷ [])

unfoldable pub found_unheard_of : Rules → List Bool
found_unheard_of rules =
    let m : Mesh = end_of (happen rules) unheard_of in
    -- All numbers held or carried for D lie in one window, those of the replies too.
    as_demanded (happen rules) event_fits unheard_of
    -- A forwards no reply, because it has no row for C. A refuses the late element 2 (25).
    ∷ agree eqb (lines rules unheard_of)
    (0 ∷ 1 ∷ 0 ∷ 1 ∷ 0 ∷ 1 ∷ 0 ∷ 1 ∷ 0 ∷ 1 ∷ 0 ∷ 0 ∷ 0 ∷ 1 ∷ 0 ∷ 1 ∷ 0 ∷ 1 ∷ 25 ∷ 0 ∷ [])
    -- The numbers for D that A, B and D hold after six events, and at the end.
    ∷ agree eqb (held_in unheard_of (after (happen rules) 6 unheard_of)) (2_147_483_651 ∷ 2_147_483_650 ∷ 2_147_483_651 ∷ [])
    ∷ agree eqb (held_in unheard_of m) (2_147_483_653 ∷ 2_147_483_650 ∷ 2_147_483_653 ∷ [])
    -- The walk of demand 3 meets A and D.
    ∷ agree same (way unheard_of m) (A ∷ D ∷ [])
    ∷ []

-- ---- loops under wrong rules

-- Wrong rules, and a run that loops under them.
pub record Counterexample : Type 0 where
  pub rules : Rules
  pub list : Run Event

abbrev pub loops : Counterexample → Bool
loops x = goes_round (happen x.rules) event_fits x.list

-- Refusal 25 compares numbers as plain numbers.
abbrev pub plain_numbers : Counterexample
plain_numbers =
    record {
      rules = compares_plainly;
      list = towards_d (2 ^ 32 - 2) (2 ^ 32 - 6)
          -- D sends 0 with number 4,294,967,295.
          (D requests_as_a_root 0
          -- A 4294967295/2 via D, and A forwards 1.
          ∷ A gets 0 over 2 at 0
          -- A 0/largest, invalidated. The RERR is element 2.
          ∷ A loses D
          -- B 4294967295/4 via A, and B forwards 3.
          ∷ B gets 1 over 2 at 0
          -- 4,294,967,295 wrongly counts as newer than 0: A 4294967295/6 via B.
          ∷ A gets 3 over 2 at 0
          ∷ []);
    }

-- Refusal 25 lets a RREP with an equal number pass at any metric.
abbrev pub equal_reply : Counterexample
equal_reply =
    record {
      rules = takes_equal_replies;
      list = towards_d 0 0
          -- E sends 0, a root request with reply wanted.
          (E requests_as_a_root 4
          -- A replies with 1 and forwards 2. B replies with 3 and forwards 4. D replies with 5, with number 1, and forwards 6.
          ∷ A gets 0 over 1 at 0
          ∷ B gets 2 over 1 at 0
          ∷ D gets 4 over 1 at 0
          -- A receives D's reply: A 1/1 via D, and A forwards 7.
          ∷ A gets 5 over 1 at 0
          -- B 1/2 via A, and B forwards 8.
          ∷ B gets 7 over 1 at 0
          -- A receives the reply again: A 1/3 via B.
          ∷ A gets 8 over 1 at 0
          ∷ []);
    }

-- Refusal 25 lets an equal number pass at any metric if the row is inactive.
abbrev pub equal_if_inactive : Counterexample
equal_if_inactive =
    record {
      rules = takes_equal_if_inactive;
      list = towards_d 0 0
          -- D sends 0 with number 1 and lifetime 1.
          (D asks_for E lasting 1
          -- A 1/6 via D, with expiry 10, and A forwards 1.
          ∷ A gets 0 over 6 at 9
          -- B 1/14 via A, and B forwards 2.
          ∷ B gets 1 over 8 at 1
          -- The row of A has expired: A 1/19 via B.
          ∷ A gets 2 over 5 at 11
          ∷ []);
    }

-- A break frees the rows that it should invalidate.
abbrev pub dropped : Counterexample
dropped =
    record {
      rules = drops_broken;
      list = towards_d 0 0
          -- D sends 0 with number 1.
          (D announces_itself
          -- A 1/5 via D, and A forwards 1. B 1/10 via A, and B forwards 2.
          ∷ A gets 0 over 5 at 0
          ∷ B gets 1 over 5 at 0
          -- The row of A is free. The RERR is element 3.
          ∷ A loses D
          -- A 1/11 via B.
          ∷ A gets 2 over 1 at 0
          ∷ []);
    }

-- A break does not step the numbers of the rows that it invalidates.
abbrev pub unstepped : Counterexample
unstepped =
    record {
      rules = keeps_number;
      list = towards_d 0 0
          -- D sends 0 with number 1.
          (D announces_itself
          -- A 1/2 via D, and A forwards 1. B 1/5 via A, and B forwards 2.
          ∷ A gets 0 over 2 at 0
          ∷ B gets 1 over 3 at 0
          -- A 1/largest, invalidated. The RERR is element 3.
          ∷ A loses D
          -- A 1/8 via B.
          ∷ A gets 2 over 3 at 0
          ∷ []);
    }

unfoldable pub counterexamples : List Counterexample
counterexamples = plain_numbers ∷ equal_reply ∷ equal_if_inactive ∷ dropped ∷ unstepped ∷ []

-- ---- loops under the rules, with a call that demand 3 leaves out

-- `listed` is a call that demand 3 allows. `forgets`: a point forgets a destination. `starts_anew`: a point makes its table
-- fresh again, with this own number.
pub data WiderEvent : Type 0 where
  listed : Event → WiderEvent
  forgets : (point destination : Address) → WiderEvent
  starts_anew : (point : Address) → SequenceNumber → WiderEvent

-- Returns the mesh after the point a, which lends l, has called fresh or forget on its table, given the decision on the call.
abbrev pub after_table_call : Mesh → Address → Lent → Decision (List ℕ) → Mesh
after_table_call m a l (Err n) = m
after_table_call m a l (Ok t) = record { boxes = with_box a (with_table t l) m.boxes; log = m.log }

-- Returns the mesh after the point a has called fresh or forget. The mesh stays as it was if there is no point a.
abbrev pub table_called : Mesh → Address → (List ℕ → Decision (List ℕ)) → Option Lent → Mesh
table_called m a call None = m
table_called m a call (Some l) = after_table_call m a l (call l.table)

-- Returns the mesh after one event under the rules.
unfoldable pub happen_wider : Mesh → WiderEvent → Mesh
happen_wider m (listed e) = happen decision m e
happen_wider m (forgets a d) = table_called m a (λ t. forget t d) (box_of a m.boxes)
happen_wider m (starts_anew a n) = table_called m a (λ t. make_fresh t a n) (box_of a m.boxes)

-- Reports whether the operands of an event fit. The own number of a fresh table has four octets.
unfoldable pub wider_fits : WiderEvent → Bool
wider_fits (listed e) = event_fits e
wider_fits (forgets a d) = true
wider_fits (starts_anew a n) = ltb n.0 (256 ^ 4)

-- Returns a run in which A loses its row for D through the call `loss`.
abbrev pub losing_its_row : WiderEvent → Run WiderEvent
losing_its_row loss =
    towards_d 0 0
    -- D sends 0 with number 1. A 1/5 via D, and A forwards 1. B 1/10 via A, and B forwards 2.
    (listed (D announces_itself)
    ∷ listed (A gets 0 over 5 at 0)
    ∷ listed (B gets 1 over 5 at 0)
    ∷ loss
    -- A 1/11 via B.
    ∷ listed (A gets 2 over 1 at 0)
    ∷ [])

unfoldable pub left_out : List (Run WiderEvent)
left_out = losing_its_row (forgets A D) ∷ losing_its_row (starts_anew A (record { 0 = 0 })) ∷ []

-- ---- a loop under the rules, outside the premise

-- No window holds 1, 3 and 2,147,483,650. The 0 that makes D go back to 1 comes from a break, which names a row of unknown number
-- with 0. A RERR has no mark for an unknown number.
abbrev pub outside : Run Event
outside =
    towards_d (2 ^ 31 + 1) 0
    -- C sends 0, and D forwards 1. A has rows for C and, of unknown number, for D, and A forwards 2.
    (C requests_as_a_root 0
    ∷ D gets 0 over 1 at 0
    ∷ A gets 1 over 1 at 0
    -- The RERR is element 3. It names C with number 2 and D with number 0.
    ∷ A loses D
    -- D sends 4 with number 2,147,483,650. A 2147483650/1 via D, and A forwards 5. B 2147483650/2 via A, and B forwards 6.
    -- C 2147483650/2 via A, and C forwards 7.
    ∷ D requests_as_a_root 0
    ∷ A gets 4 over 1 at 0
    ∷ B gets 5 over 1 at 0
    ∷ C gets 5 over 1 at 0
    -- C receives A's late RERR, and 0 is newer than 2,147,483,650: C 0/largest, invalidated, and C sends 8.
    ∷ C gets 3 over 1 at 0
    -- C asks with the known number 0, element 9. For D, 0 is newer than 2,147,483,650, so D replies with number 1, element 10.
    -- A 1/1 via D.
    ∷ C asks_for D lasting 1000
    ∷ D gets 9 over 1 at 0
    ∷ A gets 10 over 1 at 0
    -- D sends 11 and 12 with numbers 2 and 3. A 3/1 via D, and A forwards 13.
    ∷ D requests_as_a_root 0
    ∷ D requests_as_a_root 0
    ∷ A gets 12 over 1 at 0
    -- A receives B's late element 6, and 2,147,483,650 is newer than 3: A 2147483650/3 via B.
    ∷ A gets 6 over 1 at 0
    ∷ [])

unfoldable pub outside_loops : Bool
outside_loops = has_duplicate (way outside (end_of (happen decision) outside))
