-- The frames of an accepted call take at most 1,560 octets: an output that passes refusal 2 has room for them.
use Rattle.std.specs.Prelude.{Ok}
use Prim.Native.Nat.{ℕ, ◌+◌, ◌*◌, ◌≤◌}
use mathlib.Core.Path.{◌≡◌, refl, sym, ap, subst, ◌∙◌}
use mathlib.Core.Bool.{Bool, true, and-eq-true_iff}
use mathlib.Core.List.{List, [], ◌∷◌, flat_map}
use lib.Dec.{leb, ltb}
use lib.ListN.{length, length-append}
use native.Mathlib.Omega.{arith}
use native.Mathlib.Nat.{mul-zero, mul-suc}
use borrow.Author.Tests.{leb-true, ltb-false, not-false}
use Rattle.octets.specs.LittleEndian.{Octets}
use Rattle.layout.specs.declared.row.Row.{Row}
use Rattle.layout.specs.Layout.{sized, rows, row_at}
use Rattle.table.specs.Table.{number}
use Rattle.table.proofs.Cases.{of_size}
use Rattle.element.specs.declared.LostDestination.{LostDestination}
use Rattle.element.specs.declared.Kind.{Kind}
use Rattle.element.specs.declared.Kind.TheVariants.{Rann, Rreq, Rrep, Rerr}
use Rattle.element.specs.Layout.{length_with}
use Rattle.element.specs.Element.{Element, rann, rreq, rrep, rerr, kind_of, count_of}
use Rattle.element.specs.Entries.{each, All}
use Rattle.element.specs.Octets.{write_frame, read_element}
use Rattle.element.proofs.Lengths.{longest, length_range}
use Rattle.element.proofs.Scans.{each_length}
use Rattle.element.proofs.Sizes.{frame_length}
use Rattle.rules.specs.Decision.{Ruling, decide}
use Rattle.rules.specs.Exit.{Frame, Lent, Effect, frame_octets, least_output}
use Rattle.rules.specs.declared.Arrival.{Arrival}
use Rattle.rules.specs.Learn.{learnt}
use Rattle.rules.specs.Destinations.{Answered, reply, all_answered}
use Rattle.rules.specs.Onward.{rreq_onward}
use Rattle.layout.specs.Row.{is_through}
use Rattle.rules.specs.Errors.{broken_entry, broken_entries}
use Rattle.rules.specs.Receive.{rann_received, rrep_received, rreq_received, rerr_received, received, receiving, receive}
use Rattle.rules.specs.Originate.{announced, requested, asking, ask, announcing, announce, requesting_as_root, root_request}
use Rattle.rules.specs.Break.{broken_off, breaking, break_neighbour}
use Rattle.rules.specs.Calls.{Call, receives, makes, asks, announces, requests_as_root, breaks, decision, OperandsFit}
use Rattle.rules.proofs.Branches.{cond_cases}
use Rattle.rules.proofs.Rulings.{listed, test_of, passed, passed_check}
use Rattle.rules.proofs.Alls.{all_after, all_implies, flat_fewer}
use Rattle.rules.proofs.Emitting.{Emits, rann_emitted, rreq_emitted, rrep_emitted, replies_emitted, errors_emitted}
use Rattle.rules.proofs.FrameOctets.{frames_append}
use Rattle.rules.proofs.Sending.{FrameFits, FramesFit}
use Rattle.rules.proofs.Accepted.{Accepted, accepted_element}
use Rattle.rules.proofs.CallsKeep.{call_kept}

-- ---- how many octets frames have: the receiver, ID and Length, and as many octets as Length says

abbrev Long : ℕ → Frame → Type 0
Long n f = length_with (kind_of f.element) (count_of f.element) ≤ n

-- The Length of an element that fits is at most 252.
fitting_small : (f : Frame) → FrameFits f → Long 252 f
fitting_small f fit = by (kind_of f.element) (length_range (kind_of f.element) (count_of f.element) fit.element.count).1
  where
    by : (k : Kind) → length_with k (count_of f.element) ≤ longest k → length_with k (count_of f.element) ≤ 252
    by Rann l = omega arith
    by Rreq l = omega arith
    by Rrep l = omega arith
    by Rerr l = omega arith

frames_small : (n : ℕ) (frames : List Frame) → All (Long n) frames → length (frame_octets frames) ≤ (8 + n) * length frames
unfolding frame_octets flat_map All
frames_small n [] h = omega (arith, mul-zero (8 + n))
frames_small n (f ∷ frames) h =
    omega (
      arith,
      length-append (write_frame f.receiver f.element) (frame_octets frames),
      frame_length f.receiver f.element,
      h.0,
      frames_small n frames h.1,
      mul-suc (8 + n) (length frames),
    )

fitting_frames : (frames : List Frame) → FramesFit frames → length (frame_octets frames) ≤ 260 * length frames
fitting_frames frames fit =
    frames_small 252 frames (all_implies FrameFits (Long 252) fitting_small frames fit)

-- ---- a break has at most 128 entries, so at most six RERRs

pub entry_one : (test : Row → Bool) (r : Row) → length (broken_entry test r) ≤ 1
unfolding broken_entry
entry_one test r = cond_cases (λ (l : List LostDestination). length l ≤ 1) (test r) (λ _. omega arith) (λ _. omega arith)

pub entries_few : (test : Row → Bool) (l : List Row) → length (flat_map (broken_entry test) l) ≤ length l
entries_few test = flat_fewer (broken_entry test) (entry_one test)

rows_few : (t : List ℕ) → sized t ≡ true → rows t ≤ 128
rows_few t e = omega (arith, (of_size t (sized t) refl e).not_longer)

entries_128 : (t : List ℕ) → sized t ≡ true → (test : Row → Bool) → length (broken_entries test t) ≤ 128
unfolding broken_entries
entries_128 t size test =
    let l : List Row = each (row_at t) 0 (rows t) in
    omega (arith, entries_few test l, each_length (row_at t) 0 (rows t), rows_few t size)

-- ---- every call

-- The property that every frame has, for laws that only bound how many frames there are.
abbrev Anything : Frame → Type 0
Anything f = Unit {0}

module _ (l : Lent) (octets : Octets l.table) (room : ℕ) where
  abbrev t : List ℕ
  t = l.table

  -- At most six frames that fit have at most 1,560 octets.
  few_frames : (n : ℕ) → n ≤ 6 → (frames : List Frame) → length frames ≤ n → FramesFit frames → length (frame_octets frames) ≤ 1560
  few_frames n l frames few fit = omega (arith, fitting_frames frames fit)

  received_room : (a : Arrival) (e : Element) → Accepted t a e → FramesFit (received l a e).frames → length (frame_octets (received l a e).frames) ≤ 1560
  unfolding received rann_received rrep_received rerr_received rreq_received reply
  received_room a (rann p) ok fit = few_frames 1 (omega arith) _ (rann_emitted Anything a p tt).few fit
  received_room a (rrep f dependents) ok fit = few_frames 1 (omega arith) _ (rrep_emitted Anything (learnt a f.path t) a f dependents (λ _ _. tt)).few fit
  received_room a (rerr f destinations) ok fit = few_frames 1 (omega arith) _ (omega arith) fit
  received_room a (rreq f targets) ok fit =
      let u : List ℕ = learnt a f.path t in
      let done : Answered = all_answered u a f.path (number t) targets in
      let onward : List Frame = rreq_onward u a f done.kept in
      -- A reply has no dependents, so its Length is 32.
      let replies : Emits (Long 32) (length targets) done.replies =
      replies_emitted (Long 32) u a f.path (λ n. omega arith) (λ d r found known. omega arith) (number t) targets in
      let few = leb-true (length targets) 20 ((and-eq-true_iff (leb 1 (length targets)) (leb (length targets) 20)).0 ok.fits.count).1 in
      let goes_on = all_after FrameFits done.replies onward fit in
      omega (
        arith,
        ap length (frames_append done.replies onward),
        length-append (frame_octets done.replies) (frame_octets onward),
        frames_small 32 done.replies replies.each,
        replies.few,
        few,
        fitting_frames onward goes_on,
        (rreq_emitted Anything u a f done.kept (λ _ _ _. tt)).few,
      )

  -- The frames of an accepted call have at most 1,560 octets if its effect e' has at most n frames, with n at most 6.
  call_few : (n : ℕ) → n ≤ 6 → (call : Call) → OperandsFit call → (e e' : Effect) → decision l room call ≡ Ok e → e' ≡ e → length e'.frames ≤ n
      → length (frame_octets e.frames) ≤ 1560
  call_few n six call fit e e' is same_effect few =
      few_frames n six e.frames (subst (λ (x : Effect). length x.frames ≤ n) same_effect few) (call_kept l octets room call fit e is).frames

  pub call_room : (call : Call) → OperandsFit call → (e : Effect) → decision l room call ≡ Ok e → length (frame_octets e.frames) ≤ 1560
  unfolding listed decision receive ask announce root_request break_neighbour announced requested broken_off
  call_room (receives a s) fit e is =
      let p = passed (receiving l room a s) e is in
      let frames = (call_kept l octets room (receives a s) fit e is).frames in
      subst (λ (x : Effect). FramesFit x.frames → length (frame_octets x.frames) ≤ 1560) p.1
      (received_room a (read_element s) (accepted_element l room a s octets fit.0 fit.1 p.0)) frames
  call_room (makes (asks lifetime items)) fit e is =
      call_few 1 (omega arith) (makes (asks lifetime items)) fit e _ is (passed (asking l room lifetime items) e is).1 (omega arith)
  call_room (makes (announces flags lifetime)) fit e is =
      call_few 1 (omega arith) (makes (announces flags lifetime)) fit e _ is (passed (announcing l room flags lifetime) e is).1 (omega arith)
  call_room (makes (requests_as_root flags lifetime)) fit e is =
      call_few 1 (omega arith) (makes (requests_as_root flags lifetime)) fit e _ is (passed (requesting_as_root l room flags lifetime) e is).1 (omega arith)
  call_room (makes (breaks c neighbour)) fit e is =
      let p = passed (breaking l room c neighbour) e is in
      let size = not-false (sized t) (passed_check 1 (breaking l room c neighbour).checks p.0) in
      let entries : List LostDestination = broken_entries (is_through c neighbour) t in
      let errors = (errors_emitted Anything entries (λ _ _. tt)).few in
      call_few 6 (omega arith) (makes (breaks c neighbour)) fit e _ is p.1 (omega (arith, errors, entries_128 t size (is_through c neighbour)))

-- ---- an output that passed refusal 2

long_enough : {A : Type 0} (room : ℕ) (r : Ruling A) (u : A) → test_of 2 r.checks ≡ ltb room least_output → decide r ≡ Ok u → least_output ≤ room
long_enough room r u second is = ltb-false room least_output (sym second ∙ passed_check 2 r.checks (passed r u is).0)

call_output : (l : Lent) (room : ℕ) (call : Call) (e : Effect) → decision l room call ≡ Ok e → least_output ≤ room
unfolding listed decision receive ask announce root_request break_neighbour
call_output l room (receives a s) e is = long_enough room (receiving l room a s) e refl is
call_output l room (makes (asks lifetime items)) e is = long_enough room (asking l room lifetime items) e refl is
call_output l room (makes (announces flags lifetime)) e is = long_enough room (announcing l room flags lifetime) e refl is
call_output l room (makes (requests_as_root flags lifetime)) e is = long_enough room (requesting_as_root l room flags lifetime) e refl is
call_output l room (makes (breaks c neighbour)) e is = long_enough room (breaking l room c neighbour) e refl is

-- The output that an accepted call was lent has room for its frames.
pub output_room : (l : Lent) → Octets l.table → (output : List ℕ) (call : Call) → OperandsFit call → (e : Effect)
    → decision l (length output) call ≡ Ok e → length (frame_octets e.frames) ≤ length output
output_room l octets output call fit e is =
    omega (arith, call_room l octets (length output) call fit e is, call_output l (length output) call e is)
