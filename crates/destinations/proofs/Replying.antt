-- Laws of the replies, case by case and one after another, as the proofs of the functions need them.
use Rattle.std.specs.Prelude.{None, Some, Option}
use Prim.Native.Nat.{ℕ, ◌+◌, ◌-◌, ◌*◌, ◌<◌, ◌≤◌}
use mathlib.Core.Path.{◌≡◌, refl, sym, ap, ap₂, subst, ◌∙◌}
use mathlib.Core.Bool.{Bool, true, false, not, ◌&&◌}
use mathlib.Core.List.{List, [], ◌∷◌, ◌++◌, append-nil, flat_map}
use lib.ListN.{length, length-append}
use native.Mathlib.Omega.{arith}
use native.Mathlib.Nat.{sub-zero, add-zero, zero-add}
use borrow.Author.Tests.{not-true, not-false}
use Rattle.octets.specs.LittleEndian.{overwrite}
use Rattle.octets.proofs.OctetLists.{overwrite_append}
use Rattle.counters.specs.declared.SequenceNumber.{SequenceNumber}
use Rattle.counters.specs.Numbers.{next_number, newer}
use Rattle.layout.specs.declared.address.Address.{Address}
use Rattle.layout.specs.declared.row.Head.{Head}
use Rattle.layout.specs.declared.row.Row.{Row}
use Rattle.layout.specs.Address.{same}
use Rattle.layout.specs.Layout.{head_at}
use Rattle.table.specs.Table.{own, row_for}
use Rattle.table.proofs.ByHead.{own_is}
use Rattle.element.specs.declared.Kind.TheVariants.{Rrep}
use Rattle.element.specs.declared.PathInfo.{PathInfo}
use Rattle.element.specs.declared.Target.{Target}
use Rattle.element.specs.declared.RrepFields.{RrepFields}
use Rattle.element.specs.Element.{rrep, rrep_numbers, kind_of, count_of}
use Rattle.element.specs.Layout.{length_with}
use Rattle.element.specs.Entries.{each, All, target_at}
use Rattle.element.specs.Lists.{all_ones}
use Rattle.element.specs.Octets.{frame_start, write_frame}
use Rattle.element.proofs.Scans.{each_next, each_end}
use Rattle.element.proofs.Sizes.{frame_length}
use Rattle.writing.proofs.Written.{frame_parts}
use Rattle.rules.specs.declared.Arrival.{Arrival}
use Rattle.element.specs.Flags.{reply_wanted, number_unknown}
use Rattle.rules.specs.Exit.{Frame, frame_octets}
use Rattle.rules.specs.Destinations.{Answered, reply, reply_fields, own_reply, newer_of, answered_number, kept_on, for_oneself, for_all_ones, for_another, answered, all_answered}
use Rattle.rules.proofs.Emitting.{Emits, one_answered, replies_emitted}
use Rattle.rules.proofs.FrameOctets.{one_frame, frames_append}
use Rattle.destinations.specs.declared.replies.Replied.{Replied}
use Rattle.destinations.specs.declared.replies.Reply.{Reply}
use Rattle.destinations.specs.declared.replies.Reply.TheVariants.{ForItself, ByRow}
use Rattle.destinations.specs.declared.replies.Said.{Said}
use Rattle.answering.specs.Answering.{answering_row}
use Rattle.destinations.specs.Replies.{RepliesTo, by_row, frames_of, number_after, of_oneself, of_row, reply_saying, replied_after, replied_from}
use Rattle.answering.proofs.AnsweringRows.{another_by, answering_is}

-- ---- one reply

abbrev reply_frame : Address → RrepFields → Frame
reply_frame to f = record { receiver = to; element = rrep f [] }

reply_octets : (to : Address) (f : RrepFields) → frame_octets (reply_frame to f ∷ []) ≡ frame_start to Rrep 0 (rrep_numbers f)
unfolding flat_map
reply_octets to f = one_frame (reply_frame to f) ∙ frame_parts to (rrep f []) ∙ append-nil (frame_start to Rrep 0 (rrep_numbers f))

module _ (a : Arrival) (p : PathInfo) (x : Said) where
  reply_long : length (frame_octets (reply_saying a p x ∷ [])) ≡ 40
  unfolding reply
  reply_long =
      let f : RrepFields = reply_fields p x.destination x.number x.hops x.metric in
      ap length (one_frame (reply_frame a.transmitter f)) ∙ frame_length a.transmitter (rrep f [])

  pub reply_written : (f : RrepFields) → f ≡ reply_fields p x.destination x.number x.hops x.metric → (s v : List ℕ) (at : ℕ)
      → v ≡ overwrite s at (frame_start a.transmitter Rrep 0 (rrep_numbers f)) → v ≡ overwrite s at (frame_octets (reply_saying a p x ∷ []))
  unfolding reply
  reply_written f fe s v at e =
      e ∙ ap (overwrite s at) (sym (reply_octets a.transmitter f))
      ∙ ap (λ (g : RrepFields). overwrite s at (frame_octets (reply_frame a.transmitter g ∷ []))) fe

module _ (self : SequenceNumber) (q : Target) (u : Bool) (ue : u ≡ number_unknown q) (b : Bool) (be : b ≡ newer q.number self) where
  pub becomes_requested : (not u && b) ≡ true → q.number ≡ newer_of self q
  becomes_requested e = rw (← ue, ← be, e)

  pub stays_own : (not u && b) ≡ false → self ≡ newer_of self q
  stays_own e = rw (← ue, ← be, e)

-- ---- the reply to a destination, by its address

module _ (t : List ℕ) (a : Arrival) (p : PathInfo) (n : SequenceNumber) (q : Target) where
  -- If the result for the destination is x, a reply with the number and the replies of x is the reply to it.
  answers : (x : Answered) → answered t a p n q ≡ x → (y : Option Reply) → x.number ≡ number_after n y → x.replies ≡ frames_of a p (own t) y
      → RepliesTo t a p n q y
  answers x e y ne re =
      record {
        number = ap (λ (z : Answered). z.number) e ∙ ne;
        replies = ap (λ (z : Answered). z.replies) e ∙ re;
      }

  by_row_answers : (o : Option Row) → answered t a p n q ≡ another_by t a p n q o → RepliesTo t a p n q (by_row o)
  by_row_answers None e = answers (another_by t a p n q None) e None refl refl
  by_row_answers (Some r) e = answers (another_by t a p n q (Some r)) e (Some (ByRow r)) refl refl

  module _ (h : Head) (he : h ≡ head_at t) (b : Bool) (be : b ≡ same q.address h.own) where
    module _ (is_self : b ≡ true) (m : SequenceNumber) (me : m ≡ newer_of n q) (k : SequenceNumber) (ke : k ≡ next_number m) where
      self_answer : answered t a p n q ≡ for_oneself t a p n q
      unfolding answered
      self_answer = rw (own_is t h he q.address b true be is_self)

      pub self_answers : RepliesTo t a p n q (Some (ForItself k))
      unfolding for_oneself answered_number
      self_answers =
          subst (λ (i : SequenceNumber). RepliesTo t a p n q (Some (ForItself i))) (ap next_number (sym me) ∙ sym ke)
          (answers (for_oneself t a p n q) self_answer (Some (ForItself (next_number (newer_of n q)))) refl refl)

    module _ (not_self : b ≡ false) (o : Bool) (oe : o ≡ not (same q.address all_ones)) where
      module _ (not_ones : o ≡ true) (y : Option Reply) (ye : y ≡ by_row (answering_row t a.clock q)) where
        other_answer : answered t a p n q ≡ for_another t a p n q (row_for t q.address)
        unfolding answered
        other_answer = rw (own_is t h he q.address b false be not_self, not-true (same q.address all_ones) (sym oe ∙ not_ones))

        pub other_answers : RepliesTo t a p n q y
        other_answers = subst (RepliesTo t a p n q) (sym ye) (by_row_answers (answering_row t a.clock q) (other_answer ∙ answering_is t a p n q))

      module _ (is_ones : o ≡ false) (w : Bool) (we : w ≡ reply_wanted p) where
        ones_answer : answered t a p n q ≡ for_all_ones t a p n q
        unfolding answered
        ones_answer = rw (own_is t h he q.address b false be not_self, not-false (same q.address all_ones) (sym oe ∙ is_ones))

        unwanted : not w ≡ true → for_all_ones t a p n q ≡ kept_on n q
        unfolding for_all_ones
        unwanted no_reply = rw (← we, not-true w no_reply)

        pub unwanted_answers : not w ≡ true → RepliesTo t a p n q None
        unwanted_answers no_reply = answers (kept_on n q) (ones_answer ∙ unwanted no_reply) None refl refl

        module _ (wants_reply : not w ≡ false) (k : SequenceNumber) (ke : k ≡ next_number n) where
          abbrev said_to_all : Answered
          said_to_all = record { number = next_number n; replies = own_reply a p (own t) (next_number n) ∷ []; kept = q ∷ [] }

          wanted : for_all_ones t a p n q ≡ said_to_all
          unfolding for_all_ones
          wanted = rw (← we, not-false w wants_reply)

          pub wanted_answers : RepliesTo t a p n q (Some (ForItself k))
          wanted_answers =
              subst (λ (i : SequenceNumber). RepliesTo t a p n q (Some (ForItself i))) (sym ke)
              (answers said_to_all (ones_answer ∙ wanted) (Some (ForItself (next_number n))) refl refl)

-- ---- what a reply adds to the replies that end at `before`

module _ (t : List ℕ) (a : Arrival) (p : PathInfo) (q : Target) (before : Replied) (y : Option Reply) (replies_to : RepliesTo t a p before.number q y) where
  abbrev this : Answered
  this = answered t a p before.number q

  number_is : (z : Option Reply) → y ≡ z → this.number ≡ number_after before.number z
  number_is z e = replies_to.number ∙ ap (number_after before.number) e

  replies_are : (z : Option Reply) → y ≡ z → this.replies ≡ frames_of a p (own t) z
  replies_are z e = replies_to.replies ∙ ap (frames_of a p (own t)) e

  module _ (silent : y ≡ None) where
    pub silent_place : before ≡ replied_after before this
    unfolding frame_octets flat_map
    silent_place = rw (number_is None silent, replies_are None silent, add-zero before.frames, add-zero before.place)

    pub silent_output : (s : List ℕ) → s ≡ overwrite s before.place (frame_octets this.replies)
    unfolding frame_octets flat_map overwrite
    silent_output s = rw (replies_are None silent)

  module _ (n : SequenceNumber) (r : Replied) (re : r ≡ record { number = n; frames = before.frames + 1; place = before.place + 40 }) where
    said_place : this.number ≡ n → (x : Said) → this.replies ≡ reply_saying a p x ∷ [] → r ≡ replied_after before this
    said_place ne x said = rw (re, ne, said, reply_long a p x)

    pub oneself_place : (z : Reply) → y ≡ Some z → z ≡ ForItself n → r ≡ replied_after before this
    oneself_place z ye ze =
        let e : y ≡ Some (ForItself n) = ye ∙ ap Some ze in
        said_place (number_is (Some (ForItself n)) e) (of_oneself (own t) n) (replies_are (Some (ForItself n)) e)

  pub row_place : (row : Row) (z : Reply) → y ≡ Some z → z ≡ ByRow row → (r : Replied)
      → r ≡ record { number = before.number; frames = before.frames + 1; place = before.place + 40 } → r ≡ replied_after before this
  row_place row z ye ze r re =
      let e : y ≡ Some (ByRow row) = ye ∙ ap Some ze in
      said_place before.number r re (number_is (Some (ByRow row)) e) (of_row row) (replies_are (Some (ByRow row)) e)

-- ---- all replies; each takes 40 octets

abbrev Bare : Frame → Type 0
Bare f = length_with (kind_of f.element) (count_of f.element) ≡ 32

frames_long : (l : List Frame) → All Bare l → length (frame_octets l) ≡ 40 * length l
unfolding frame_octets flat_map All
frames_long [] h = refl
frames_long (f ∷ l) h =
    omega (
      arith,
      length-append (write_frame f.receiver f.element) (frame_octets l),
      frame_length f.receiver f.element,
      h.0,
      frames_long l h.1,
    )

module _ (t : List ℕ) (a : Arrival) (p : PathInfo) (n : SequenceNumber) where
  one_short : (q : Target) → (length (frame_octets (answered t a p n q).replies) ≤ 40) × (length (answered t a p n q).replies ≤ 1)
  unfolding reply
  one_short q =
      let x : Emits Bare 1 (answered t a p n q).replies = one_answered Bare t a p (λ m. refl) (λ d r found known. refl) n q in
      (omega (arith, frames_long (answered t a p n q).replies x.each, x.few), x.few)

  pub replies_long : (targets : List Target)
      → (length (frame_octets (all_answered t a p n targets).replies) ≡ 40 * length (all_answered t a p n targets).replies)
      × (length (all_answered t a p n targets).replies ≤ length targets)
  unfolding reply
  replies_long targets =
      let x : Emits Bare (length targets) (all_answered t a p n targets).replies = replies_emitted Bare t a p (λ m. refl) (λ d r found known. refl) n targets in
      (frames_long (all_answered t a p n targets).replies x.each, x.few)

-- ---- one after another

module _ (t : List ℕ) (a : Arrival) (p : PathInfo) (part out₀ : List ℕ) (at n : ℕ) (start : SequenceNumber) where
  -- `left_from` returns the result of the destinations from i on, where the own number is m. `all_replies` returns the result of
  -- all destinations.
  abbrev left_from : ℕ → SequenceNumber → Answered
  left_from i m = all_answered t a p m (each (target_at part) i (n - i))

  abbrev all_replies : Answered
  all_replies = all_answered t a p start (each (target_at part) 0 n)

  -- States what stands before destination i. Together with the result that is left, it makes the whole.
  pub record Replying (i : ℕ) (replied : Replied) (out : List ℕ) : Type 0 where
    pub short : replied.place ≤ at + 40 * i
    pub few : replied.frames ≤ i
    pub number : (left_from i replied.number).number ≡ all_replies.number
    pub counted : replied.frames + length (left_from i replied.number).replies ≡ length all_replies.replies
    pub long : replied.place + length (frame_octets (left_from i replied.number).replies) ≡ at + length (frame_octets all_replies.replies)
    pub written : overwrite out replied.place (frame_octets (left_from i replied.number).replies) ≡ overwrite out₀ at (frame_octets all_replies.replies)

  pub replying_start : Replying 0 (record { number = start; frames = 0; place = at }) out₀
  replying_start =
      record {
        short = omega arith;
        few = omega arith;
        number = rw (sub-zero n);
        counted = rw (sub-zero n, zero-add (length all_replies.replies));
        long = rw (sub-zero n);
        written = rw (sub-zero n);
      }

  module _ (i : ℕ) (replied : Replied) (out : List ℕ) (so_far : Replying i replied out) where
    pub replying_more : i < n → (q : Target) → q ≡ target_at part i → (next : Replied) → next ≡ replied_after replied (answered t a p replied.number q)
        → (out' : List ℕ) → out' ≡ overwrite out replied.place (frame_octets (answered t a p replied.number q).replies) → Replying (i + 1) next out'
    unfolding all_answered
    replying_more l q qe next ne out' oe =
        let this : Answered = answered t a p replied.number (target_at part i) in
        let after : next ≡ replied_after replied this = ne ∙ ap (λ (x : Target). replied_after replied (answered t a p replied.number x)) qe in
        let here : out' ≡ overwrite out replied.place (frame_octets this.replies) =
        oe ∙ ap (λ (x : Target). overwrite out replied.place (frame_octets (answered t a p replied.number x).replies)) qe in
        let rest : Answered = left_from (i + 1) this.number in
        let left : left_from i replied.number ≡ record { number = rest.number; replies = this.replies ++ rest.replies; kept = this.kept ++ rest.kept } =
        ap (all_answered t a p replied.number) (each_next (target_at part) i n l) in
        let octets : frame_octets (left_from i replied.number).replies ≡ frame_octets this.replies ++ frame_octets rest.replies =
        ap (λ (x : Answered). frame_octets x.replies) left ∙ frames_append this.replies rest.replies in
        let numbers : left_from (i + 1) next.number ≡ rest = ap (λ (x : Replied). left_from (i + 1) x.number) after in
        let place : next.place ≡ replied.place + length (frame_octets this.replies) = ap (λ (x : Replied). x.place) after in
        let frames : next.frames ≡ replied.frames + length this.replies = ap (λ (x : Replied). x.frames) after in
        let one : (length (frame_octets this.replies) ≤ 40) × (length this.replies ≤ 1) = one_short t a p replied.number (target_at part i) in
        record {
          short = omega (arith, so_far.short, place, one.0);
          few = omega (arith, so_far.few, frames, one.1);
          number = ap (λ (x : Answered). x.number) (numbers) ∙ ap (λ (x : Answered). x.number) (sym left) ∙ so_far.number;
          counted =
              omega (
                arith,
                so_far.counted,
                frames,
                ap (λ (x : Answered). length x.replies) left,
                length-append this.replies rest.replies,
                ap (λ (x : Answered). length x.replies) numbers,
              );
          long =
              omega (
                arith,
                so_far.long,
                place,
                ap length octets,
                length-append (frame_octets this.replies) (frame_octets rest.replies),
                ap (λ (x : Answered). length (frame_octets x.replies)) numbers,
              );
          written =
              ap₂ (λ (u : List ℕ) (x : Replied). overwrite u x.place (frame_octets (left_from (i + 1) x.number).replies)) here after
              ∙ sym (overwrite_append out replied.place (frame_octets this.replies) (frame_octets rest.replies))
              ∙ ap (overwrite out replied.place) (sym octets)
              ∙ so_far.written;
        }

    module _ (l : n ≤ i) where
      none_left : left_from i replied.number ≡ record { number = replied.number; replies = []; kept = [] }
      unfolding all_answered
      none_left = ap (all_answered t a p replied.number) (each_end (target_at part) i n l)

      pub all_replied : replied ≡ replied_from at all_replies
      unfolding frame_octets flat_map
      all_replied =
          let number : replied.number ≡ all_replies.number = ap (λ (x : Answered). x.number) (sym none_left) ∙ so_far.number in
          let frames : replied.frames ≡ length all_replies.replies =
          omega (arith, so_far.counted, ap (λ (x : Answered). length x.replies) none_left) in
          let place : replied.place ≡ at + length (frame_octets all_replies.replies) =
          omega (arith, so_far.long, ap (λ (x : Answered). length (frame_octets x.replies)) none_left) in
          rw (number, frames, place)

      pub replies_written : out ≡ overwrite out₀ at (frame_octets all_replies.replies)
      unfolding frame_octets flat_map overwrite
      replies_written = ap (λ (x : Answered). overwrite out replied.place (frame_octets x.replies)) (sym none_left) ∙ so_far.written
