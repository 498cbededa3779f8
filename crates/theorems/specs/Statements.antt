-- The theorems about the rules of `docs/PROTOCOL.md` and about its bench. Each statement is a type in this file.
-- The comment above a statement says it in words. The comment begins with the name of the theorem in `proofs/Theorems.antt`
-- that proves the statement.
--
-- How to read the types:
--   (x : T) → P         for every x of type T, P holds
--   P → Q               if P holds, then Q holds
--   P × Q               P and Q hold
--   P ⊎ Q               P or Q holds
--   x ≡ y               x equals y
--   λ x. e              the function that takes x to e
--   x ∷ l               the entry x followed by the list l
--   l ++ k              the list l followed by the list k
--   all test l ≡ true   every entry of the list l passes the test
--   All (λ x. P) l      P holds for every entry x of the list l
--   r.f                 the field f of r
--   a.0                 the plain number of an address, a sequence number or a metric
--
-- Words in the types:
--   List ℕ                     a list of numbers, for octets
--   Octets s                   every number in the list s is below 256
--   Lent                       what a point lends to a call; the field `table` is the table of the point
--   Call                       a receive, ask, announce, root request or break, with its operands
--   OperandsFit call           C's types can hold the operands of the call
--   decision l room call       what the rules decide on a call that is lent l and an output of `room` octets
--   Ok e                       the call is accepted; its effect e is the `Lent` that it leaves and the frames that it emits
--   read_element s             the element that the octets s are read as; `rreq f targets` is a RREQ with these destinations
--   at_exit l output decision  answer, frames and octets reported, and all lent octets, when the call has ended
use Rattle.rules.specs.Lists.{all, any}
use Rattle.std.specs.Prelude.{ℕ, ◌+◌, ◌^◌, ◌<◌, ◌≤◌, ◌≡◌, true, false, ◌⊎◌, length, take, Ok}
use mathlib.Core.List.{List, ◌∷◌, ◌++◌, map, flat_map}
use Rattle.octets.specs.LittleEndian.{Octets}
use Rattle.counters.specs.declared.SequenceNumber.{SequenceNumber}
use Rattle.counters.specs.Numbers.{next_number}
use Rattle.layout.specs.declared.address.Address.{Address}
use Rattle.layout.specs.Address.{same}
use Rattle.table.specs.Table.{own, number, is_table}
use Rattle.element.specs.declared.PathInfo.{PathInfo}
use Rattle.element.specs.declared.RreqFields.{RreqFields}
use Rattle.element.specs.declared.Target.{Target}
use Rattle.element.specs.Element.{rreq, targets_of}
use Rattle.element.specs.Entries.{All}
use Rattle.element.specs.Flags.{number_unknown}
use Rattle.element.specs.Octets.{wrong_length, other_id, misfit, read_element}
use Rattle.element.specs.Lists.{has_duplicate}
use Rattle.rules.specs.declared.Arrival.{Arrival}
use Rattle.rules.specs.Exit.{Frame, Lent, Effect, frame_octets, least_output, Exit, at_exit, frames_at, element_in, read_frame}
use Rattle.rules.specs.Fresh.{make_fresh}
use Rattle.rules.specs.Forget.{forget}
use Rattle.rules.specs.Destinations.{answered}
use Rattle.rules.specs.Errors.{broken}
use Rattle.rules.specs.Receive.{is_mismarked, is_stale_for}
use Rattle.rules.specs.Calls.{Call, receives, decision, OperandsFit}
use Rattle.rules.specs.Walk.{Walked, walk}
use Rattle.bench_rules.specs.Run.{Standing, going, obey_all, text_for}
use Rattle.theorems.specs.Edges.{edges, shut_out, further_cases}
use Rattle.theorems.specs.Mesh.{Point, start, Event, walk_over, points_fit, event_fits, happen, run, throughout, met}
use Rattle.theorems.specs.Premise.{all_within}
use Rattle.theorems.specs.WrongRules.{ruled_by, receiving_by, breaking_by}
use Rattle.theorems.specs.WorkedBench.{worked_input, worked_text}
use Rattle.theorems.specs.Runs.{
  goes_round,
  worked,
  went_round,
  found_unheard_of,
  loops,
  counterexamples,
  happen_wider,
  wider_fits,
  left_out,
  outside,
  outside_loops,
}

-- ---- edges

-- `p1_to_p8`: Every test in the list `edges` passes. The list holds the tests of P1 to P8 (PROTOCOL, 'Edges').
abbrev pub EdgesHold : Type 0
EdgesHold = all (λ b. b) edges ≡ true

-- `errors_shut_out`: Every test in the list `shut_out` passes. The list holds the tests that shut out the three trainees' errors
-- (PROTOCOL, 'Edges').
abbrev pub ErrorsShutOut : Type 0
ErrorsShutOut = all (λ b. b) shut_out ≡ true

-- `further_cases`: Every test in the list `further_cases` passes. The list holds the tests of U1 to U6 (PROTOCOL, 'Edges').
abbrev pub FurtherCasesHold : Type 0
FurtherCasesHold = all (λ b. b) further_cases ≡ true

-- ---- unknown numbers

-- `unknown_just_steps`: If a point accepts a RREQ that names the point itself and marks the requested number unknown, the own
-- number steps by one. This holds whatever the own number is, and whatever else the RREQ names.
abbrev pub UnknownJustSteps : Type 0
UnknownJustSteps =
    (l : Lent) → Octets l.table → (room : ℕ) (a : Arrival) (s : List ℕ) → OperandsFit (receives a s)
    → (f : RreqFields) (before after : List Target) (q : Target) → read_element s ≡ rreq f (before ++ q ∷ after)
    → same q.address (own l.table) ≡ true → number_unknown q ≡ true
    → (e : Effect) → decision l room (receives a s) ≡ Ok e
    → number e.lent.table ≡ next_number (number l.table)

-- `keeps_the_mark`: Each destination k that a point keeps of a destination q, to forward it, has the address, the number and the
-- mark of q. This holds whatever the point knows of q, and whether DO is set on the way or not.
abbrev pub KeepsTheMark : Type 0
KeepsTheMark =
    (t : List ℕ) (a : Arrival) (p : PathInfo) (n : SequenceNumber) (q : Target)
    → All (λ (k : Target). (k.address ≡ q.address) × (k.number ≡ q.number) × (number_unknown k ≡ number_unknown q))
    (answered t a p n q).kept

-- `only_0_is_unknown`: In all frames that any accepted call emits, only the number 0 is marked unknown. No point therefore
-- refuses (10) a frame of another point because of the mark.
abbrev pub OnlyZeroIsUnknown : Type 0
OnlyZeroIsUnknown =
    (l : Lent) (room : ℕ) (call : Call) (e : Effect) → decision l room call ≡ Ok e
    → All (λ (f : Frame). any is_mismarked (targets_of f.element) ≡ false) e.frames

-- ---- stays a table

-- `stays_a_table`: If a receive, ask, announce, root request or break is accepted, it leaves a table of octets that passes
-- refusal 21 and is as long as before. This holds for any octets as the table, for any length of the output, and for all
-- operands that fit.
abbrev pub StaysTable : Type 0
StaysTable =
    (l : Lent) → Octets l.table → (room : ℕ) (call : Call) → OperandsFit call
    → (e : Effect) → decision l room call ≡ Ok e
    → Octets e.lent.table × (is_table e.lent.table ≡ true) × (length e.lent.table ≡ length l.table)

-- `fresh_is_a_table`: If the call for a fresh table is accepted, it leaves a table of octets that passes refusal 21 and is as
-- long as the buffer was. This holds whatever the buffer held, for every own address of six octets and every number of four.
abbrev pub FreshIsTable : Type 0
FreshIsTable =
    (t u : List ℕ) (own : Address) (number : SequenceNumber) → own.0 < 256 ^ 6 → number.0 < 256 ^ 4
    → make_fresh t own number ≡ Ok u → Octets u × (is_table u ≡ true) × (length u ≡ length t)

-- `forget_stays_a_table`: If a forget is accepted, it leaves a table of octets that passes refusal 21 and is as long as before.
-- This holds for any octets as the table and for any destination.
abbrev pub ForgetStaysTable : Type 0
ForgetStaysTable =
    (t u : List ℕ) (d : Address) → Octets t → forget t d ≡ Ok u → Octets u × (is_table u ≡ true) × (length u ≡ length t)

-- ---- has room

-- `has_room`: The frames of an accepted call take at most 1,560 octets. Every output that passes refusal 2 therefore has room
-- for all frames of the call.
abbrev pub HasRoom : Type 0
HasRoom =
    (l : Lent) → Octets l.table → (room : ℕ) (call : Call) → OperandsFit call
    → (e : Effect) → decision l room call ≡ Ok e
    → length (frame_octets e.frames) ≤ least_output

-- ---- frames in the output

-- `frames_in_output`: Take the output that any accepted call leaves. Cut as many frames from its start as the call reports, by
-- the Length octets alone. Read as receiver addresses and elements, the cut frames are exactly the frames of the call's effect,
-- in order. Joined one after another, the cut frames are the first octets of the output, as many as the call reports.
abbrev pub FramesInOutput : Type 0
FramesInOutput =
    (l : Lent) → Octets l.table → (output : List ℕ) (call : Call) → OperandsFit call
    → (e : Effect) → decision l (length output) call ≡ Ok e
    → (x : Exit) → at_exit l output (decision l (length output) call) ≡ x
    → (map read_frame (frames_at x) ≡ e.frames) × (flat_map (λ (s : List ℕ). s) (frames_at x) ≡ take x.octets x.output)

-- States that the octets s pass refusals 6, 7 and 8.
pub record ReadsAsElement (s : List ℕ) : Type 0 where
  pub passes_6 : wrong_length s ≡ false
  pub passes_7 : other_id s ≡ false
  pub passes_8 : misfit s ≡ false

-- `reads_back`: Take the output that any call leaves, accepted or refused. Cut as many frames from its start as the call
-- reports, by the Length octets alone. Each cut frame, without its receiver address, passes refusals 6, 7 and 8.
abbrev pub ReadsBack : Type 0
ReadsBack =
    (l : Lent) → Octets l.table → (output : List ℕ) (call : Call) → OperandsFit call
    → (x : Exit) → at_exit l output (decision l (length output) call) ≡ x
    → All (λ (s : List ℕ). ReadsAsElement (element_in s)) (frames_at x)

-- ---- walks

-- `hops_at_most`: An accepted walk, whether it answers 0, 41 or 42, counts at most as many hops as there are points.
abbrev pub HopsAtMost : Type 0
HopsAtMost = (s : List ℕ) (count c : ℕ) (from d : Address) (w : Walked) → walk s count c from d ≡ Ok w → w.hops ≤ count

-- ---- loop free: demand 3

-- `loop_free`:
-- Take any points with fresh tables of 1 to 128 rows, with individual addresses of which no two are equal, and any own numbers.
-- Take any list of calls of the points: receive, ask, announce, root request, break, next hop and walk, accepted or refused.
-- The calls may have any operands that C's types can hold. A receive brings any element sent so far, from its sender.
-- Elements may therefore come late, repeatedly, in any order or never.
-- Take any destination d and any window of 2^31 consecutive numbers, where 0 follows 4,294,967,295.
-- A number that a RREQ marks unknown does not count among the numbers carried (`target_number` in `Premise.antt`).
-- If, before the first call and after each call, all numbers held or carried for d lie in the window,
-- then, after the last call, the walk along valid rows for d, from any start and with any number of hops, meets no point twice.
--
-- The proof uses less than the statement asks for. It does not use `points_fit`, because a call on octets that are no table is
-- refused, and because the second of two points with equal addresses would never be called or met. Of the numbers held or
-- carried, it uses only the numbers in rows.
--
-- Forget and a second fresh table are not among the calls. With either of them there are loops, see `NeedsExclusions`.
abbrev pub LoopFree : Type 0
LoopFree =
    (points : List Point) → points_fit points ≡ true → (events : List Event) → all event_fits events ≡ true
    → (d : Address) (base : ℕ) → base < 2 ^ 32
    → throughout (happen decision) (all_within d base) (start points) events ≡ true
    → (a : Address) (hops : ℕ) → has_duplicate (met (run (happen decision) (start points) events) d hops a) ≡ false

-- ---- never too long

-- `never_too_long`: Suppose that everything that `LoopFree` asks for holds, and that all points have equally many rows, because
-- a walk takes tables of one length. After the last call, take any walk (PROTOCOL, 'Walk') over the tables of all points
-- towards d, at any clock and from any start. If the walk is accepted, it answers 0 or 41, never 42.
abbrev pub NeverTooLong : Type 0
NeverTooLong =
    (points : List Point) → points_fit points ≡ true → (events : List Event) → all event_fits events ≡ true
    → (d : Address) (base : ℕ) → base < 2 ^ 32
    → throughout (happen decision) (all_within d base) (start points) events ≡ true
    → (rows : ℕ) → All (λ (p : Point). p.rows ≡ rows) points
    → (c : ℕ) (from : Address) (w : Walked) → walk_over (run (happen decision) (start points) events) c from d ≡ Ok w
    → (w.answer ≡ 0) ⊎ (w.answer ≡ 41)

-- ---- not vacuous

-- `not_vacuous`: Three runs under the rules pass all their tests (`worked`, `went_round` and `found_unheard_of` in `Runs.antt`).
-- The first run is the worked case (PROTOCOL, 'Worked case') with its walk. It has everything that `LoopFree` asks for, both
-- with point 2 and with point 0 as the destination. Its calls answer as the bench prints. At its end valid rows lead from point
-- 0 over point 1 to point 2, and back.
-- In the second run numbers pass from 4,294,967,295 to 0. It has everything that `LoopFree` asks for. Its calls answer as its
-- tests list, and the tables hold the numbers that its tests list. At its end valid rows lead from A over B to D.
-- In the third run C asks for D, which C never heard of, while D's number is above 2^31. It has everything that `LoopFree` asks
-- for: the numbers that D replies with lie in the window of those before. Its calls answer as its tests list, and the tables hold
-- the numbers that its tests list. At its end a valid row leads from A to D.
abbrev pub NotVacuous : Type 0
NotVacuous = all (λ b. b) (worked decision ++ went_round decision ++ found_unheard_of decision) ≡ true

-- ---- sharp

-- `sharp`: Each of five wrong rules (`WrongRules.antt`) brings a loop. For each there is a list of calls (`Runs.antt`) that has
-- everything that `LoopFree` asks for. Under the wrong rule, the walk along valid rows after the last call meets a point twice.
-- The wrong rules are:
--   - Refusal 25 compares numbers as plain numbers.
--   - Refusal 25 lets a RREP with an equal number pass at any metric, as the draft does (PROTOCOL, 'Departures from the draft').
--   - Refusal 25 lets an equal number pass at any metric if the row is inactive.
--   - A break frees the rows that it should invalidate.
--   - A break does not step the numbers of the rows that it invalidates.
--
-- Four other errors have no list of calls: a RERR matched by destination only; a RERR with a newer number that leaves the
-- metric of the row; a break that leaves the metric of the row; a break that also invalidates expired rows. None of the four
-- makes a row worse, so none brings a loop, and demand 3 does not exclude them. This is an argument, not a proof. `edges` and
-- `shut_out` exclude the first three errors. The proof that the code equals the rules excludes all four, and so do the tests.
abbrev pub Sharp : Type 0
Sharp = all loops counterexamples ≡ true

-- `else_the_rules`: `ruled_by`, `receiving_by` and `breaking_by` build the wrong rules: they replace the rules' test of
-- refusal 25 or the rules' change of a row that breaks. Given the rules' own test and the rules' own change, they decide every
-- call as the rules do. Each wrong rule therefore differs from the rules only in the test or the change that it replaces.
abbrev pub ElseTheRules : Type 0
ElseTheRules =
    (l : Lent) (room : ℕ) (call : Call)
    → ruled_by (receiving_by (λ e. is_stale_for)) (breaking_by broken) l room call ≡ decision l room call

-- `needs_its_exclusions`: Two lists of calls each have one call that `LoopFree` leaves out: in one list a point forgets a
-- destination, in the other a point makes its table fresh a second time. Otherwise each list has everything that `LoopFree`
-- asks for. Under the rules themselves, the walk along valid rows after the last call of each list meets a point twice.
abbrev pub NeedsExclusions : Type 0
NeedsExclusions = all (goes_round happen_wider wider_fits) left_out ≡ true

-- `needs_its_premise`: One list of calls has points and operands as `LoopFree` asks for. Under the rules themselves, the walk
-- along valid rows after its last call meets a point twice. No window of 2^31 consecutive numbers contains all
-- numbers held or carried for its destination, before the first call and after each call.
abbrev pub NeedsPremise : Type 0
NeedsPremise =
    (points_fit outside.points ≡ true) × (all event_fits outside.events ≡ true) × (outside_loops ≡ true)
    × ((base : ℕ) → base < 2 ^ 32
    → throughout (happen decision) (all_within outside.destination base) (start outside.points) outside.events ≡ false)

-- ---- the bench

-- `obeys_in_parts`: Suppose that no fault ends the bench while it obeys the octets x, and that its offset grows by the length
-- of x, which means that x ends between two commands. Then obeying x ++ y gives the same result as obeying y from where x has
-- left the bench.
abbrev pub ObeysInParts : Type 0
ObeysInParts =
    (text : List ℕ) (b : Standing) (x y text' : List ℕ) (b' : Standing)
    → obey_all (going text b) x ≡ going text' b' → b'.offset ≡ b.offset + length x
    → obey_all (going text b) (x ++ y) ≡ obey_all (going text' b') y

-- `prints_the_worked_case`: Given the octets of the worked case (PROTOCOL, 'Worked case') as its whole input, the bench prints
-- the text of the worked case.
abbrev pub PrintsWorkedCase : Type 0
PrintsWorkedCase = text_for worked_input ≡ worked_text
