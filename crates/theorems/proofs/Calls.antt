-- Each accepted call is `Fine`.
use Rattle.std.specs.Prelude.{Ok, Some, option_map}
use Prim.Native.Nat.{ℕ, ◌^◌, ◌<◌}
use mathlib.Core.Path.{◌≡◌, refl, sym, ap, subst, ◌∙◌}
use mathlib.Core.Bool.{Bool, true}
use mathlib.Core.List.{List, ◌++◌, Memᴰ}
use mathlib.Core.Logic.{inl, inr}
use Rattle.octets.specs.LittleEndian.{Octets}
use Rattle.layout.specs.declared.address.Address.{Address}
use Rattle.layout.specs.declared.row.Head.{Head}
use Rattle.layout.specs.declared.row.Row.{Row}
use Rattle.layout.specs.Row.{active, head_with, is_through}
use Rattle.layout.specs.Layout.{put_head}
use Rattle.table.specs.Table.{own, number, row_for, change_where}
use Rattle.table.proofs.Heads.{head_found}
use Rattle.table.proofs.Changes.{KeepsRows, changed, by_test, change_found}
use Rattle.element.specs.declared.NumberedAddress.{NumberedAddress}
use Rattle.element.specs.declared.PathInfo.{PathInfo}
use Rattle.element.specs.declared.RreqFields.{RreqFields}
use Rattle.element.specs.declared.RrepFields.{RrepFields}
use Rattle.element.specs.declared.Target.{Target}
use Rattle.element.specs.Element.{Element, rann, rreq, rrep, rerr}
use Rattle.element.specs.Octets.{read_element}
use Rattle.rules.specs.Exit.{Frame, Lent, with_table, Effect}
use Rattle.rules.specs.declared.Arrival.{Arrival}
use Rattle.rules.specs.Learn.{learnt}
use Rattle.rules.specs.Destinations.{Answered, all_answered}
use Rattle.rules.specs.Onward.{onward, to_all, rann_onward, rreq_onward, rrep_onward}
use Rattle.rules.specs.Errors.{is_match, erred, broken, broken_entries, error_at}
use Rattle.rules.specs.Receive.{path_of, rann_received, rrep_received, rreq_received, rerr_received, received, receiving, receive}
use Rattle.rules.specs.Originate.{numbered_head, own_path, announced, requested, asking, ask, announcing, announce, requesting_as_root, root_request}
use Rattle.rules.specs.Break.{broken_off, breaking, break_neighbour}
use Rattle.rules.specs.Calls.{Call, receives, makes, asks, announces, requests_as_root, breaks, decision, OperandsFit}
use Rattle.rules.proofs.Rulings.{listed, passed}
use Rattle.rules.proofs.Alls.{all_append}
use Rattle.rules.proofs.AsGood.{InWindow, Falls, stays, break_falls, error_falls}
use Rattle.rules.proofs.Learning.{Heard, learnt_keeps}
use Rattle.rules.proofs.Falling.{through_acts, break_keeps_rows, error_keeps_rows}
use Rattle.rules.proofs.Emitting.{to_all_emitted, rann_emitted, rreq_emitted, rrep_emitted, errors_emitted}
use Rattle.rules.proofs.Accepted.{Accepted, accepted_element}
use Rattle.rules.proofs.CallsKeep.{Kept, call_kept}
use Rattle.theorems.specs.Mesh.{Sent}
use Rattle.theorems.proofs.Invariant.{Near, Backed, path_in, Sound, Fine, stay, backed_path, backed_none}
use Rattle.theorems.proofs.Moves.{changed_move, learnt_move, learnt_absent, learnt_stands}
use Rattle.theorems.proofs.Frames.{AllBacked, replies_backed}

-- A received element is an element of the log, and its transmitter is its sender.
abbrev pub FromLog : List Sent → Call → Type 0
FromLog log (receives a octets) = (s : Sent) × Memᴰ s log × (s.sender ≡ a.transmitter) × (s.octets ≡ octets)
FromLog log (makes call) = Unit {0}

-- ---- originating: no row is written, and the path that is sent is the point's own

module _ (d : Address) (base : ℕ) (log : List Sent) (l : Lent) where
  originates : (h : Head) → h.own ≡ own l.table → (e : Element) (flags lifetime : ℕ) → path_of e ≡ Some (own_path h flags lifetime)
      → Sound d base log l.table (record { lent = with_table (put_head l.table h) l; frames = to_all e })
  unfolding own_path
  originates h same_point e flags lifetime is =
      let row : row_for (put_head l.table h) d ≡ row_for l.table d = head_found l.table h d in
      record {
        move = rw row (stay (row_for l.table d));
        absent = λ self before. row ∙ before;
        backed = (to_all_emitted (λ (f : Frame). Backed d base (own l.table) (row_for (put_head l.table h) d) (path_of f.element)) e
            (rw is (backed_path _ (λ about. inl (sym same_point ∙ about))))).each;
      }

  requested_sound : (flags lifetime : ℕ) (targets : List Target) → Sound d base log l.table (requested l flags lifetime targets)
  unfolding requested numbered_head head_with
  requested_sound flags lifetime targets = originates _ refl _ flags lifetime refl

  announced_sound : (flags lifetime : ℕ) → Sound d base log l.table (announced l flags lifetime)
  unfolding announced numbered_head head_with
  announced_sound flags lifetime = originates _ refl _ flags lifetime refl

module _ (d : Address) (base : ℕ) (small : base < 2 ^ 32) (log : List Sent) (l : Lent) (octets : Octets l.table)
    (near : Near base (row_for l.table d)) where
  abbrev t : List ℕ
  t = l.table

  -- ---- rows that fall, with frames that carry no path

  fallen_sound : (p : Row → Bool) (f : Row → Row) → KeepsRows p f → ((r : Row) → InWindow base r → InWindow base (f r) → Falls base small r (f r))
      → (h : Head) (frames : List Frame) → AllBacked d base (own t) (row_for (put_head (change_where p f t) h) d) frames
      → Near base (row_for (put_head (change_where p f t) h) d)
      → Sound d base log t (record { lent = with_table (put_head (change_where p f t) h) l; frames = frames })
  fallen_sound p f keeps fall h frames backed near' =
      let row : row_for (put_head (change_where p f t) h) d ≡ option_map (changed p f) (row_for t d) =
      head_found (change_where p f t) h d ∙ change_found p f keeps t octets d in
      record {
        move = rw row (changed_move small (changed p f) falls_or_stays (row_for t d) near (rw row at near'));
        absent = λ self before. row ∙ ap (option_map (changed p f)) before;
        backed = backed;
      }
    where
      falls_or_stays : (r : Row) → InWindow base r → InWindow base (changed p f r) → Falls base small r (changed p f r)
      falls_or_stays r near = by_test p f (λ (q : Row). InWindow base q → Falls base small r q) r (λ _. stays refl) (λ _. fall r near)

  -- A break is sound for any test that only active rows pass.
  break_sound : (c : ℕ) (test : Row → Bool) → ((r : Row) → test r ≡ true → active c r ≡ true)
      → Near base (row_for (broken_off l c test).lent.table d) → Sound d base log t (broken_off l c test)
  unfolding broken_off error_at
  break_sound c test acts =
      fallen_sound test broken (break_keeps_rows test c acts) (break_falls base small) _ _
      (errors_emitted (λ (f : Frame). Backed d base (own t) _ (path_of f.element)) (broken_entries test t) (λ i long. backed_none)).each

  -- ---- an element from the log

  module _ (a : Arrival) (s : Sent) (logged : Memᴰ s log) (by : s.sender ≡ a.transmitter) where
    -- Steps 1 and 2, for a RANN, a RREQ or a RREP.
    module _ (p : PathInfo) (is_some_and : path_in s.octets ≡ Some p) (heard : Heard t a p) where
      u : List ℕ
      u = learnt a p t

      same_point : own u ≡ own t
      unfolding u
      same_point = ap (λ (h : Head). h.own) (learnt_keeps t a p heard).head

      heard_sound : (h : Head) (frames : List Frame) → AllBacked d base (own u) (row_for u d) frames
          → Near base (row_for (put_head u h) d) → Sound d base log t (record { lent = with_table (put_head u h) l; frames = frames })
      unfolding u
      heard_sound h frames backed near' =
          let row : row_for (put_head (learnt a p t) h) d ≡ row_for (learnt a p t) d = head_found (learnt a p t) h d in
          record {
            move = rw row (learnt_move d base small log t a p heard s logged by is_some_and near (rw row at near'));
            absent = λ self before. row ∙ learnt_absent d t a p heard self before;
            backed = rw (row, ← same_point) backed;
          }

      onward_backed : Backed d base (own u) (row_for u d) (Some (onward a p))
      unfolding u onward
      onward_backed = backed_path _ (λ about. inr (learnt_stands d t a p heard base about))

    -- The frame f is backed by the row for d after steps 1 and 2.
    abbrev BackedAfter : PathInfo → Frame → Type 0
    BackedAfter p f = Backed d base (own (learnt a p t)) (row_for (learnt a p t) d) (path_of f.element)

    rann_sound : (p : PathInfo) → path_in s.octets ≡ Some p → Heard t a p → Near base (row_for (rann_received l a p).lent.table d)
        → Sound d base log t (rann_received l a p)
    unfolding rann_received u
    rann_sound p is_some_and heard =
        heard_sound p is_some_and heard _ (rann_onward a p)
        (rann_emitted (BackedAfter p) a p (onward_backed p is_some_and heard)).each

    rrep_sound : (f : RrepFields) (dependents : List NumberedAddress) → path_in s.octets ≡ Some f.path → Heard t a f.path
        → Near base (row_for (rrep_received l a f dependents).lent.table d) → Sound d base log t (rrep_received l a f dependents)
    unfolding rrep_received u
    rrep_sound f dependents is_some_and heard =
        let v : List ℕ = learnt a f.path t in
        heard_sound f.path is_some_and heard _ (rrep_onward (learnt a f.path t) a f dependents)
        (rrep_emitted (BackedAfter f.path) v a f dependents (λ _ _. onward_backed f.path is_some_and heard)).each

    rreq_sound : (f : RreqFields) (targets : List Target) → path_in s.octets ≡ Some f.path → Heard t a f.path
        → Near base (row_for (rreq_received l a f targets).lent.table d) → Sound d base log t (rreq_received l a f targets)
    unfolding rreq_received u
    rreq_sound f targets is_some_and heard =
        let v : List ℕ = learnt a f.path t in
        let done : Answered = all_answered v a f.path (number t) targets in
        heard_sound f.path is_some_and heard _ (done.replies ++ rreq_onward v a f done.kept)
        (all_append (λ (g : Frame). Backed d base (own v) (row_for v d) (path_of g.element)) done.replies (rreq_onward v a f done.kept)
        (replies_backed d base v a f.path (number t) targets)
        (rreq_emitted (BackedAfter f.path) v a f done.kept (λ _ _ _. onward_backed f.path is_some_and heard)).each)

    received_sound : (e : Element) → read_element s.octets ≡ e → Accepted t a e → Near base (row_for (received l a e).lent.table d)
        → Sound d base log t (received l a e)
    unfolding received rerr_received
    received_sound (rann p) is ok = rann_sound p (ap path_of is) (ok.heard p refl)
    received_sound (rreq f targets) is ok = rreq_sound f targets (ap path_of is) (ok.heard f.path refl)
    received_sound (rrep f dependents) is ok = rrep_sound f dependents (ap path_of is) (ok.heard f.path refl)
    received_sound (rerr g destinations) is ok =
        fallen_sound (is_match a.clock a.transmitter destinations) (erred destinations)
        (error_keeps_rows a.clock a.transmitter destinations ok.fits.entries) (error_falls base small destinations) _ _
        (to_all_emitted (λ (f : Frame). Backed d base (own t) _ (path_of f.element)) _ backed_none).each

  -- ---- every call

  module _ (room : ℕ) where
    call_sound : (call : Call) → OperandsFit call → FromLog log call → (e : Effect) → decision l room call ≡ Ok e
        → Near base (row_for e.lent.table d) → Sound d base log t e
    unfolding listed decision receive ask announce root_request break_neighbour
    call_sound (receives a octets') fit from e is =
        let p = passed (receiving l room a octets') e is in
        subst (λ (x : Effect). Near base (row_for x.lent.table d) → Sound d base log t x) p.1
        (received_sound a from.0 from.1 from.2 (read_element octets') (ap read_element from.3)
        (accepted_element l room a octets' octets fit.0 fit.1 p.0))
    call_sound (makes (asks lifetime items)) fit from e is =
        subst (λ (x : Effect). Near base (row_for x.lent.table d) → Sound d base log t x) (passed (asking l room lifetime items) e is).1
        (λ _. requested_sound d base log l _ _ _)
    call_sound (makes (announces flags lifetime)) fit from e is =
        subst (λ (x : Effect). Near base (row_for x.lent.table d) → Sound d base log t x) (passed (announcing l room flags lifetime) e is).1
        (λ _. announced_sound d base log l flags lifetime)
    call_sound (makes (requests_as_root flags lifetime)) fit from e is =
        subst (λ (x : Effect). Near base (row_for x.lent.table d) → Sound d base log t x) (passed (requesting_as_root l room flags lifetime) e is).1
        (λ _. requested_sound d base log l _ _ _)
    call_sound (makes (breaks c neighbour)) fit from e is =
        subst (λ (x : Effect). Near base (row_for x.lent.table d) → Sound d base log t x) (passed (breaking l room c neighbour) e is).1
        (break_sound c (is_through c neighbour) (through_acts c neighbour))

    pub call_fine : (call : Call) → OperandsFit call → FromLog log call → (e : Effect) → decision l room call ≡ Ok e → Fine d base log t e
    call_fine call fit from e is =
        let k : Kept t e = call_kept l octets room call fit e is in
        record { own = k.leaves.own; frames = k.frames; sound = call_sound call fit from e is }
