-- Laws of what the bench keeps after a call that may emit frames: the table and the frames.
use Prim.Native.Nat.{ℕ, ◌+◌, ◌-◌, ◌*◌, ◌<◌, ◌≤◌}
use mathlib.Core.Path.{◌≡◌, refl, sym, ap, ap₂, subst, ◌∙◌}
use mathlib.Core.Bool.{Bool, true, false, not, cond}
use mathlib.Core.List.{List, ◌++◌}
use lib.Dec.{ltb}
use lib.ListN.{length, take, drop, length-append, length-map, length-replicate, take-append-drop}
use native.Mathlib.Omega.{arith}
use native.Mathlib.Nat.{add-zero}
use borrow.Author.Tests.{lt-ltb, le-ltb, ltb-false, not-true}
use borrow.Rule.Slice.PartMut.{put_mid}
use Rattle.std.specs.Prelude.{Result, Ok, Err}
use Rattle.octets.specs.LittleEndian.{zeros, Octets}
use Rattle.element.proofs.Scans.{each_length}
use Rattle.rules.specs.Decision.{Decision}
use Rattle.rules.specs.Exit.{lend, Effect, frame_octets, Exit, at_exit, frames_in, frames_at}
use Rattle.rules.specs.Calls.{Call, decision, OperandsFit}
use Rattle.rules.specs.Walk.{table_at}
use Rattle.rules.proofs.CallsKeep.{call_kept}
use Rattle.rules.proofs.Room.{call_room}
use Rattle.rules.proofs.Output.{cut_output}
use Rattle.calls.specs.declared.Emitted.{Emitted}
use Rattle.calls.specs.Answers.{exit_of}
use Rattle.bench_points.specs.declared.Bench.{Bench}
use Rattle.bench_points.specs.declared.Printed.{Printed}
use Rattle.bench_points.specs.declared.Fault.{Fault}
use Rattle.bench_rules.specs.Bench.{KeptFrame, fault, line, Done, WithLinks, with_table_at, kept_from, settled, called}
use Rattle.bench_rules.specs.Interpreter.{leaving_links}
use Rattle.bench_rules.proofs.Sound.{table_octets}
use Rattle.bench_points.proofs.Invariant.{kept_soundly}
use Rattle.bench_points.proofs.Lending.{put_back, put_octets}
use Rattle.bench_points.specs.InCode.{Contents, contents, bench_of, done_with, came_in}
use Rattle.bench_core.specs.InCode.{settled_as, settled_bench, HoldsFrames}
use Rattle.bench_slots.specs.Slots.{kept_at, kept_in, kept_slots, put_frames, Holds, SentBelow}
use Rattle.bench_slots.proofs.Keeping.{ShortBelow, frames_kept, output_holds}
use Rattle.bench_slots.proofs.Sent.{frames_sent}

-- ---- the frames of a call

pub accepted_holds : (o : Decision Emitted) (e : Emitted) → o ≡ Ok e → (output : List ℕ) → HoldsFrames o output → Holds e.frames output
unfolding HoldsFrames
accepted_holds o e oe output h = rw oe at h

-- ---- the table of a point

table_back : (tables : List ℕ) (p : ℕ) → with_table_at tables p (table_at tables 544 p) ≡ tables
unfolding with_table_at table_at
table_back tables p =
    ap (λ (t : List ℕ). take (544 * p) tables ++ t) (take-append-drop 544 (drop (544 * p) tables)) ∙ take-append-drop (544 * p) tables

-- ---- the output of a call has its frames

module _ (t : List ℕ) (octets : Octets t) (call : Call) (fit : OperandsFit call) where
  output_long : (e : Effect) → decision (lend t) 1560 call ≡ Ok e → length (frame_octets e.frames) ≤ length (zeros 1560)
  output_long e is = omega (arith, call_room (lend t) octets 1560 call fit e is, length-replicate {A = ℕ} 1560 0)

  decision_holds : (d : Decision Effect) → decision (lend t) 1560 call ≡ d
      → Holds (at_exit (lend t) (zeros 1560) d).frames (at_exit (lend t) (zeros 1560) d).output
  unfolding at_exit Holds
  decision_holds (Err n) is = tt
  decision_holds (Ok e) is = output_holds (zeros 1560) e.frames (output_long e is)

  call_holds : (o : Decision Emitted) (u output : List ℕ) → exit_of o (lend u) output ≡ at_exit (lend t) (zeros 1560) (decision (lend t) 1560 call)
      → HoldsFrames o output
  unfolding HoldsFrames
  call_holds o u output xe = by o (subst (λ (x : Exit). Holds x.frames x.output) (sym xe) (decision_holds (decision (lend t) 1560 call) refl))
    where
      by : (o : Decision Emitted) → Holds (exit_of o (lend u) output).frames (exit_of o (lend u) output).output → HoldsFrames o output
      by (Err n) h = tt
      by (Ok e) h = h

-- The frames that a call leaves in its output are whole.
pub holds_frames : (b : Bench) (o : Decision Emitted) (u output lent output₀ : List ℕ) (n : ℕ) (call : Call)
    → exit_of o (lend u) output ≡ at_exit (lend lent) output₀ (decision (lend lent) n call) → OperandsFit call → output₀ ≡ zeros 1560 → n ≡ 1560
    → (i : ℕ) → lent ≡ table_at b.tables 544 i → HoldsFrames o output
holds_frames b o u output lent output₀ n call xe fit ue ne i te =
    call_holds lent (subst Octets (sym te) (table_octets b.tables i b.table_octets)) call fit o u output (xe ∙ rw (ue, ne))

-- ---- a call of point p, from its exit

abbrev came_with : Result Printed Fault → Contents → WithLinks
came_with r b = record { done = done_with r b; links = b.links }

module _ (b : Bench) (long : length b.slots ≡ 33792) (p : ℕ) where
  abbrev t : List ℕ
  t = table_at b.tables 544 p

  -- Returns what the bench holds with u as the table of p.
  abbrev with_table : List ℕ → Contents
  with_table u =
      record { points = b.points; frames = b.frames; clock = b.clock; tables = with_table_at b.tables p u; slots = b.slots; links = b.links }

  -- Returns the result of a call with the exit x.
  abbrev settled_at : Exit → Done
  settled_at x =
      cond (ltb 128 (b.frames + x.frames)) fault
      (line x.answer x.frames
      (record {
        tables = with_table_at b.tables p x.lent.table;
        points = b.points;
        frames = kept_in (put_frames b.slots p b.frames (frames_at x)) (b.frames + x.frames);
        clock = b.clock;
      }))

  outcome_settled : (o : Decision Emitted) (u output : List ℕ)
      → done_with (settled_as (with_table u) o) (settled_bench (with_table u) o p output) ≡ settled_at (exit_of o (lend u) output)
  unfolding put_frames frames_in
  outcome_settled (Err n) u output = rw (add-zero b.frames, le-ltb 128 b.frames b.few_frames)
  outcome_settled (Ok e) u output = by (ltb 128 (b.frames + e.frames)) refl
    where
      by : (x : Bool) → ltb 128 (b.frames + e.frames) ≡ x
          → done_with (settled_as (with_table u) (Ok e)) (settled_bench (with_table u) (Ok e) p output) ≡ settled_at (exit_of (Ok e) (lend u) output)
      by true xe = rw xe
      by false xe = rw xe

  links_stay : (o : Decision Emitted) (u output : List ℕ) → (settled_bench (with_table u) o p output).links ≡ b.links
  links_stay (Err n) u output = refl
  links_stay (Ok e) u output = by (ltb 128 (b.frames + e.frames)) refl
    where
      by : (x : Bool) → ltb 128 (b.frames + e.frames) ≡ x → (settled_bench (with_table u) (Ok e) p output).links ≡ b.links
      by true xe = rw xe
      by false xe = rw xe

  -- No frame that was kept before reaches beyond its slot.
  short_before : ShortBelow b.slots b.frames
  short_before i l = (kept_soundly b i l).short

  module _ (call : Call) (fit : OperandsFit call) where
    octets : Octets t
    octets = table_octets b.tables p b.table_octets

    decision_settled : (d : Decision Effect) → decision (lend t) 1560 call ≡ d → settled_at (at_exit (lend t) (zeros 1560) d) ≡ settled (bench_of b) p d
    unfolding at_exit settled put_frames frames_in
    decision_settled (Err n) is = rw (add-zero b.frames, le-ltb 128 b.frames b.few_frames, table_back b.tables p)
    decision_settled (Ok e) is = by (ltb 128 (b.frames + length e.frames)) refl
      where
        new : List KeptFrame
        new = kept_from p e.frames

        many_now : length (kept_in b.slots b.frames ++ new) ≡ b.frames + length e.frames
        many_now = length-append (kept_in b.slots b.frames) new ∙ ap₂ ◌+◌ (each_length (kept_at b.slots) 0 b.frames) (length-map e.frames _)

        by : (x : Bool) → ltb 128 (b.frames + length e.frames) ≡ x → settled_at (at_exit (lend t) (zeros 1560) (Ok e)) ≡ settled (bench_of b) p (Ok e)
        by true xe = rw (many_now, xe)
        by false xe =
            let fits = (call_kept (lend t) octets 1560 call fit e is).frames in
            let few_now = ltb-false 128 (b.frames + length e.frames) xe in
            rw (many_now, xe, cut_output (zeros 1560) e.frames (output_long t octets call fit e is), frames_kept p e.frames fits b.slots long b.frames few_now short_before)

  -- Point p is lent to the call as point i.
  module _ (i : ℕ) (is-p : Unit {0} → (i ≡ p) × (p < b.points)) (call : Call) (fit : OperandsFit call) (lent output₀ : List ℕ)
      (te : lent ≡ table_at b.tables 544 i) (ue : output₀ ≡ zeros 1560) (o : Decision Emitted) (u output : List ℕ) (n : ℕ) (ne : n ≡ 1560)
      (xe : exit_of o (lend u) output ≡ at_exit (lend lent) output₀ (decision (lend lent) n call)) where
    exit : exit_of o (lend u) output ≡ at_exit (lend t) (zeros 1560) (decision (lend t) 1560 call)
    exit = xe ∙ rw (te, ue, ne, (is-p tt).0)

    -- Returns what the bench holds with the table of the call put back.
    abbrev lent_back : Contents
    lent_back =
        record {
          points = b.points;
          frames = b.frames;
          clock = b.clock;
          tables = put_mid (544 * i) (544 * i + 544 - 544 * i) b.tables u;
          slots = b.slots;
          links = b.links;
        }

    back : lent_back ≡ with_table u
    back = rw (put_back b.tables u i, (is-p tt).0)

    pub call_done : (r : Result Printed Fault) → r ≡ settled_as lent_back o → (b' : Bench) → contents b' ≡ settled_bench lent_back o p output
        → came_in r b' ≡ leaving_links b.links (called (bench_of b) p call)
    unfolding called
    call_done r re b' be =
        let same : came_in r b' ≡ came_with (settled_as (with_table u) o) (settled_bench (with_table u) o p output) =
        ap₂ came_with (re ∙ ap (λ (k : Contents). settled_as k o) back) (be ∙ ap (λ (k : Contents). settled_bench k o p output) back) in
        same
        ∙ ap₂ leaving_links (links_stay o u output)
        (outcome_settled o u output ∙ ap settled_at exit ∙ decision_settled call fit (decision (lend t) 1560 call) refl ∙ rw (lt-ltb p b.points (is-p tt).1))

-- ---- what the type of the bench states, after a call

module _ (t : List ℕ) (octets : Octets t) (n : ℕ) (call : Call) (fit : OperandsFit call) (output₀ : List ℕ) where
  decided_octets : (d : Decision Effect) → decision (lend t) n call ≡ d → Octets (at_exit (lend t) output₀ d).lent.table
  unfolding at_exit
  decided_octets (Err r) is = octets
  decided_octets (Ok e) is = (call_kept (lend t) octets n call fit e is).leaves.whole.octets

  left_octets : (o : Decision Emitted) (u output : List ℕ) → exit_of o (lend u) output ≡ at_exit (lend t) output₀ (decision (lend t) n call) → Octets u
  left_octets o u output xe =
      subst Octets (sym (ap (λ (x : Exit). x.lent.table) xe) ∙ table_of o) (decided_octets (decision (lend t) n call) refl)
    where
      table_of : (o : Decision Emitted) → (exit_of o (lend u) output).lent.table ≡ u
      table_of (Err r) = refl
      table_of (Ok e) = refl

-- The table that the call leaves is octets, and so all tables are.
pub tables_stay : (b : Bench) (i : ℕ) (o : Decision Emitted) (u output lent output₀ : List ℕ) (n : ℕ) (call : Call)
    → exit_of o (lend u) output ≡ at_exit (lend lent) output₀ (decision (lend lent) n call) → OperandsFit call → lent ≡ table_at b.tables 544 i
    → Octets (put_mid (544 * i) (544 * i + 544 - 544 * i) b.tables u)
tables_stay b i o u output lent output₀ n call xe fit te =
    put_octets b.tables u i b.table_octets
    (left_octets lent (subst Octets (sym te) (table_octets b.tables i b.table_octets)) n call fit output₀ o u output xe)

-- The frames are kept only if they are not too many.
pub few_kept : (kept : Bool) (m : ℕ) → kept ≡ not (ltb 128 m) → kept ≡ true → m ≤ 128
few_kept kept m e is = ltb-false 128 m (not-true (ltb 128 m) (sym e ∙ is))

-- Points have sent the frames that are kept after the n frames of a call.
pub sent_after : (b : Bench) (sender n : ℕ) (output slots : List ℕ) → slots ≡ kept_slots b.slots sender b.frames n output → b.frames + n ≤ 128
    → length b.slots ≡ 33792 → sender < b.points → SentBelow b.points (b.frames + n) slots
sent_after b sender n output slots se few long is-point =
    let room = le-ltb 128 (b.frames + n) few in
    rw (se, room) (frames_sent b.points sender is-point n output b.slots b.frames long few b.sent)
