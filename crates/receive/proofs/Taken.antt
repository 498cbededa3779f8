-- Laws of the exit of an accepted element, type by type, as the proofs of the functions need them.
use Rattle.std.specs.Prelude.{Ok, ⊤}
use Prim.Native.Nat.{ℕ, ◌+◌, ◌-◌, ◌*◌, ◌/◌, ◌≤◌}
use mathlib.Core.Path.{◌≡◌, sym, ap, ap₂, ◌∙◌}
use mathlib.Core.List.{List, [], ◌∷◌, ◌++◌}
use lib.ListN.{length, length-append}
use native.Mathlib.Omega.{arith}
use Rattle.octets.specs.LittleEndian.{overwrite}
use Rattle.octets.proofs.OctetLists.{overwrite_append}
use Rattle.counters.specs.declared.SequenceNumber.{SequenceNumber}
use Rattle.layout.specs.declared.row.Head.{Head}
use Rattle.layout.specs.Layout.{head_at, put_head}
use Rattle.layout.specs.Row.{head_with}
use Rattle.table.specs.Table.{number, change_where}
use Rattle.element.specs.declared.PathInfo.{PathInfo}
use Rattle.element.specs.declared.RreqFields.{RreqFields}
use Rattle.element.specs.declared.RrepFields.{RrepFields}
use Rattle.element.specs.declared.RerrFields.{RerrFields}
use Rattle.element.specs.declared.Target.{Target}
use Rattle.element.specs.Element.{Element, rann, rreq, rrep, rerr, kind_of, count_of}
use Rattle.element.specs.Entries.{All, lost_in, numbered_in, target_at, targets_in}
use Rattle.element.specs.Layout.{length_with}
use Rattle.element.proofs.Scans.{each_length}
use Rattle.element.proofs.Sizes.{frame_length}
use Rattle.rules.specs.declared.Arrival.{Arrival}
use Rattle.rules.specs.Decision.{decide, Decision}
use Rattle.rules.specs.Destinations.{Answered, all_answered}
use Rattle.rules.specs.Errors.{matches, is_match, erred}
use Rattle.rules.specs.Learn.{learnt}
use Rattle.rules.specs.Lists.{filter}
use Rattle.rules.specs.Onward.{to_all, rann_onward, rreq_onward, rrep_onward}
use Rattle.rules.specs.Exit.{lend, Frame, frame_octets, under_head, Exit, at_exit}
use Rattle.rules.specs.Receive.{rann_received, rrep_received, rreq_received, rerr_received, received, judging}
use Rattle.rules.proofs.Emitting.{Emits, rreq_emitted}
use Rattle.rules.proofs.FrameOctets.{no_frame, one_frame, frames_append}
use Rattle.calls.specs.declared.Emitted.{Emitted}
use Rattle.calls.specs.Answers.{answer_to, emitted, exit_of}
use Rattle.calls.proofs.Checks.{accepted_exit, acceptance}
use Rattle.calls.proofs.Neighbours.{head_under, same_number}
use Rattle.destinations.specs.declared.replies.Replied.{Replied}
use Rattle.onward.specs.Kept.{kept_among}
use Rattle.destinations.specs.Replies.{replied_from}
use Rattle.onward.proofs.KeptOnes.{answered_contains, kept_few}
use Rattle.destinations.proofs.Replying.{replies_long}
use Rattle.receive.specs.declared.request.Sent.{Sent}
use Rattle.learn.specs.Learnt.{learnt_if}
use Rattle.receive.specs.Sent.{together, frames_after, sent_for}
use Rattle.receive.proofs.Learnt.{learnt_head, both_steps}

module _ (t output : List ℕ) (a : Arrival) (h : Head) (he : h ≡ head_at t) where
  -- ---- a RANN and a RREP

  rann_exit : (p : PathInfo) (u : List ℕ) → u ≡ learnt a p t → (e : Emitted) → e ≡ emitted (rann_onward a p)
      → (v : List ℕ) → v ≡ overwrite output 0 (frame_octets (rann_onward a p))
      → (w : List ℕ) → w ≡ put_head u (head_with h.number h.request a.clock h) → exit_of (Ok e) (lend w) v ≡ at_exit (lend t) output (Ok (received (lend t) a (rann p)))
  unfolding received rann_received
  rann_exit p u ue e ee v ve w we = accepted_exit (lend t) output (received (lend t) a (rann p)) (lend w) v e (ap lend (same_number t a.clock h he u (learnt a p t) w ue we)) ve ee

  rrep_exit : (f : RrepFields) (part u : List ℕ) → u ≡ learnt a f.path t → (e : Emitted) → e ≡ emitted (rrep_onward u a f (numbered_in part))
      → (v : List ℕ) → v ≡ overwrite output 0 (frame_octets (rrep_onward u a f (numbered_in part)))
      → (w : List ℕ) → w ≡ put_head u (head_with h.number h.request a.clock h)
      → exit_of (Ok e) (lend w) v ≡ at_exit (lend t) output (Ok (received (lend t) a (rrep f (numbered_in part))))
  unfolding received rrep_received
  rrep_exit f part u ue e ee v ve w we =
      accepted_exit (lend t) output (received (lend t) a (rrep f (numbered_in part))) (lend w) v e (ap lend (same_number t a.clock h he u (learnt a f.path t) w ue we))
      (ve ∙ ap (λ (x : List ℕ). overwrite output 0 (frame_octets (rrep_onward x a f (numbered_in part)))) ue)
      (ee ∙ ap (λ (x : List ℕ). emitted (rrep_onward x a f (numbered_in part))) ue)

  -- ---- a RERR

  pub rerr_exit : (f : RerrFields) (part u : List ℕ) → u ≡ change_where (is_match a.clock a.transmitter (lost_in part)) (erred (lost_in part)) t
      → (octets : ℕ) → octets ≡ length (frame_octets (to_all (rerr f (filter (matches t a.clock a.transmitter) (lost_in part)))))
      → (e : Emitted) → e ≡ record { frames = 1; octets = octets }
      → (v : List ℕ) → v ≡ overwrite output 0 (frame_octets (to_all (rerr f (filter (matches t a.clock a.transmitter) (lost_in part)))))
      → (w : List ℕ) → w ≡ put_head u (head_with h.number h.request a.clock h)
      → exit_of (Ok e) (lend w) v ≡ at_exit (lend t) output (Ok (received (lend t) a (rerr f (lost_in part))))
  unfolding received rerr_received
  rerr_exit f part u ue octets oe e ee v ve w we =
      accepted_exit (lend t) output (received (lend t) a (rerr f (lost_in part))) (lend w) v e (ap lend (same_number t a.clock h he u _ w ue we)) ve
      (ee ∙ ap (λ (k : ℕ). record { frames = 1; octets = k }) oe)

  -- ---- a RREQ

  rreq_exit : (f : RreqFields) (part u : List ℕ) → u ≡ learnt a f.path t
      → (s : Sent) → s ≡ sent_for u a f (all_answered u a f.path h.number (targets_in part))
      → (v : List ℕ) → v ≡ overwrite output 0 (frame_octets (frames_after u a f (all_answered u a f.path h.number (targets_in part))))
      → (w : List ℕ) → w ≡ put_head u (head_with s.number h.request a.clock h)
      → exit_of (Ok s.emitted) (lend w) v ≡ at_exit (lend t) output (Ok (received (lend t) a (rreq f (targets_in part))))
  unfolding received rreq_received frames_after
  rreq_exit f part u ue s se v ve w we =
      let done : List ℕ → SequenceNumber → Answered = λ x n. all_answered x a f.path n (targets_in part) in
      let own_number : h.number ≡ number t = ap (λ (k : Head). k.number) he in
      let so : s ≡ sent_for (learnt a f.path t) a f (done (learnt a f.path t) (number t)) =
      se ∙ ap₂ (λ (x : List ℕ) (n : SequenceNumber). sent_for x a f (done x n)) ue own_number in
      accepted_exit (lend t) output (received (lend t) a (rreq f (targets_in part))) (lend w) v s.emitted
      (ap lend (head_under t u s.number a.clock h he w we ∙ ap₂ (λ (x : List ℕ) (k : Sent). under_head t k.number a.clock x) ue so))
      (ve ∙ ap₂ (λ (x : List ℕ) (n : SequenceNumber). overwrite output 0 (frame_octets (frames_after x a f (done x n)))) ue own_number)
      (ap (λ (k : Sent). k.emitted) so)

-- ---- a RANN, a RREP and a RREQ from the answer of their checks, which learn if they accept

module _ (t output : List ℕ) (a : Arrival) (e : Element) (p : PathInfo) (r : Decision ⊤)
    (re : r ≡ answer_to (judging (lend t) a e).checks) (done : ⊤) (ok : r ≡ Ok done) (u : List ℕ) (ue : u ≡ learnt_if r a p t) where
  is_learnt : u ≡ learnt a p t
  is_learnt = both_steps a p t u r ue done ok

  same_head : (h : Head) → h ≡ head_at u → h ≡ head_at t
  same_head h he = he ∙ ap head_at is_learnt ∙ learnt_head a p t

  judged_so : (x : Exit) → x ≡ at_exit (lend t) output (Ok (received (lend t) a e)) → x ≡ at_exit (lend t) output (decide (judging (lend t) a e))
  unfolding judging
  judged_so = acceptance (lend t) output (judging (lend t) a e) r re done ok

pub rann_received_lem : (t output : List ℕ) (a : Arrival) (p : PathInfo) (r : Decision ⊤) → r ≡ answer_to (judging (lend t) a (rann p)).checks → (done : ⊤) → r ≡ Ok done
    → (u : List ℕ) → u ≡ learnt_if r a p t → (h : Head) → h ≡ head_at u
    → (e : Emitted) → e ≡ emitted (rann_onward a p) → (v : List ℕ) → v ≡ overwrite output 0 (frame_octets (rann_onward a p))
    → (w : List ℕ) → w ≡ put_head u (head_with h.number h.request a.clock h)
    → exit_of (Ok e) (lend w) v ≡ at_exit (lend t) output (decide (judging (lend t) a (rann p)))
rann_received_lem t output a p r re done ok u ue h he e ee v ve w we =
    let got = is_learnt t output a (rann p) p r re done ok u ue in
    judged_so t output a (rann p) p r re done ok u ue _
    (rann_exit t output a h (same_head t output a (rann p) p r re done ok u ue h he) p u got e ee v ve w we)

pub rrep_received_lem : (t output : List ℕ) (a : Arrival) (f : RrepFields) (part : List ℕ) (r : Decision ⊤) → r ≡ answer_to (judging (lend t) a (rrep f (numbered_in part))).checks → (done : ⊤) → r ≡ Ok done
    → (u : List ℕ) → u ≡ learnt_if r a f.path t → (h : Head) → h ≡ head_at u
    → (e : Emitted) → e ≡ emitted (rrep_onward u a f (numbered_in part))
    → (v : List ℕ) → v ≡ overwrite output 0 (frame_octets (rrep_onward u a f (numbered_in part)))
    → (w : List ℕ) → w ≡ put_head u (head_with h.number h.request a.clock h)
    → exit_of (Ok e) (lend w) v ≡ at_exit (lend t) output (decide (judging (lend t) a (rrep f (numbered_in part))))
rrep_received_lem t output a f part r re done ok u ue h he e ee v ve w we =
    let got = is_learnt t output a (rrep f (numbered_in part)) f.path r re done ok u ue in
    judged_so t output a (rrep f (numbered_in part)) f.path r re done ok u ue _
    (rrep_exit t output a h (same_head t output a (rrep f (numbered_in part)) f.path r re done ok u ue h he) f part u got e ee v ve w we)

pub rreq_received_lem : (t output : List ℕ) (a : Arrival) (f : RreqFields) (part : List ℕ) (r : Decision ⊤) → r ≡ answer_to (judging (lend t) a (rreq f (targets_in part))).checks → (done : ⊤) → r ≡ Ok done
    → (u : List ℕ) → u ≡ learnt_if r a f.path t → (h : Head) → h ≡ head_at u
    → (s : Sent) → s ≡ sent_for u a f (all_answered u a f.path h.number (targets_in part))
    → (v : List ℕ) → v ≡ overwrite output 0 (frame_octets (frames_after u a f (all_answered u a f.path h.number (targets_in part))))
    → (w : List ℕ) → w ≡ put_head u (head_with s.number h.request a.clock h)
    → exit_of (Ok s.emitted) (lend w) v ≡ at_exit (lend t) output (decide (judging (lend t) a (rreq f (targets_in part))))
rreq_received_lem t output a f part r re done ok u ue h he s se v ve w we =
    let got = is_learnt t output a (rreq f (targets_in part)) f.path r re done ok u ue in
    judged_so t output a (rreq f (targets_in part)) f.path r re done ok u ue _
    (rreq_exit t output a h (same_head t output a (rreq f (targets_in part)) f.path r re done ok u ue h he) f part u got s se v ve w we)

-- The frames are the replies, and after them the forwarded RREQ.
module _ (u : List ℕ) (a : Arrival) (f : RreqFields) (n : SequenceNumber) (part : List ℕ) (at : ℕ) (replied : Replied)
    (re : replied ≡ replied_from at (all_answered u a f.path n (targets_in part))) where
  abbrev x : Answered
  x = all_answered u a f.path n (targets_in part)

  abbrev kept : List Target
  kept = kept_among u a.clock part

  all_kept : x.kept ≡ kept
  all_kept = answered_contains u a f.path n part

  pub replies_few : length part ≤ 220 → replied.frames ≤ 20
  replies_few l =
      omega (
        arith,
        ap (λ (k : Replied). k.frames) re,
        (replies_long u a f.path n (targets_in part)).1,
        each_length (target_at part) 0 (length part / 11),
      )

  pub replies_after : at ≤ replied.place
  replies_after = omega (arith, ap (λ (k : Replied). k.place) re)

  pub replies_short : length part ≤ 220 → replied.place ≤ at + 800
  replies_short l =
      omega (
        arith,
        replies_few l,
        ap (λ (k : Replied). k.frames) re,
        ap (λ (k : Replied). k.place) re,
        (replies_long u a f.path n (targets_in part)).0,
      )

  pub replies_room : length part ≤ 220 → (out₀ out : List ℕ) → at + 1054 ≤ length out₀ → length out ≡ length out₀ → replied.place + 254 ≤ length out
  replies_room l out₀ out room same_length = omega (arith, replies_short l)

  module _ (onward : Emitted) (oe : onward ≡ emitted (rreq_onward u a f kept)) where
    -- States that a frame is no longer than a RREQ with all destinations of `part`.
    abbrev Short : Frame → Type 0
    Short f = length_with (kind_of f.element) (count_of f.element) ≤ 26 + 11 * (length part / 11)

    goes_on : Emits Short 1 (rreq_onward u a f kept)
    goes_on = rreq_emitted Short u a f kept (λ _ _ _. omega (arith, kept_few u a.clock part))

    pub onward_few : onward.frames ≤ 1
    onward_few = rw oe goes_on.few

    pub onward_short : length part ≤ 220 → onward.octets ≤ 254
    unfolding All
    onward_short l = rw oe (by (rreq_onward u a f kept) goes_on)
      where
        by : (frames : List Frame) → Emits Short 1 frames → length (frame_octets frames) ≤ 254
        by [] m = omega (arith, ap length no_frame)
        by (f₁ ∷ []) m = omega (arith, l, ap length (one_frame f₁), frame_length f₁.receiver f₁.element, m.each.0)
        by (f₁ ∷ f₂ ∷ frames) m = absurd (omega (arith, m.few))

    pub answer_counted : (s : Sent) → s ≡ together at replied onward → s ≡ sent_for u a f x
    unfolding frames_after
    answer_counted s se =
        let frames : List Frame = x.replies ++ rreq_onward u a f x.kept in
        let going : onward ≡ emitted (rreq_onward u a f x.kept) = oe ∙ ap (λ (k : List Target). emitted (rreq_onward u a f k)) (sym all_kept) in
        let many : replied.frames + onward.frames ≡ length frames =
        omega (arith, ap (λ (k : Replied). k.frames) re, ap (λ (k : Emitted). k.frames) going, length-append x.replies (rreq_onward u a f x.kept)) in
        let long : replied.place - at + onward.octets ≡ length (frame_octets frames) =
        omega (
          arith,
          ap (λ (k : Replied). k.place) re,
          ap (λ (k : Emitted). k.octets) going,
          ap length (frames_append x.replies (rreq_onward u a f x.kept)),
          length-append (frame_octets x.replies) (frame_octets (rreq_onward u a f x.kept)),
        ) in
        se ∙ rw (many, long, ap (λ (k : Replied). k.number) re)

    pub answer_written : (out w v : List ℕ) → w ≡ overwrite out at (frame_octets x.replies) → v ≡ overwrite w replied.place (frame_octets (rreq_onward u a f kept))
        → v ≡ overwrite out at (frame_octets (frames_after u a f x))
    unfolding frames_after
    answer_written out w v we ve =
        ve ∙ ap₂ (λ (l : List ℕ) (k : ℕ). overwrite l k (frame_octets (rreq_onward u a f kept))) we (ap (λ (k : Replied). k.place) re)
        ∙ sym (overwrite_append out at (frame_octets x.replies) (frame_octets (rreq_onward u a f kept)))
        ∙ ap (overwrite out at) (sym (frames_append x.replies (rreq_onward u a f kept)))
        ∙ ap (λ (k : List Target). overwrite out at (frame_octets (x.replies ++ rreq_onward u a f k))) (sym all_kept)
