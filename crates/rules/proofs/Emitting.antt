-- Laws of the frames that calls emit. A property Q holds for all frames of a call if it holds for each kind of frame. The laws
-- also bound how many frames there are.
use Rattle.std.specs.Prelude.{Option, None, Some}
use Prim.Native.Nat.{ℕ, ◌<◌, ◌≤◌}
use mathlib.Core.Path.{◌≡◌, refl}
use mathlib.Core.Bool.{Bool, true, not, ◌&&◌, ◌||◌, and-eq-true_iff}
use mathlib.Core.List.{List, [], ◌∷◌}
use lib.Dec.{eqb, ltb}
use lib.ListN.{length, length-append}
use native.Mathlib.Omega.{arith}
use Rattle.counters.specs.declared.SequenceNumber.{SequenceNumber}
use Rattle.counters.specs.Numbers.{next_number, older}
use Rattle.layout.specs.declared.address.Address.{Address}
use Rattle.layout.specs.declared.row.Row.{Row}
use Rattle.layout.specs.Address.{same}
use Rattle.layout.specs.Row.{active}
use Rattle.table.specs.Table.{own, row_for, active_next}
use Rattle.element.specs.declared.LostDestination.{LostDestination}
use Rattle.element.specs.declared.NumberedAddress.{NumberedAddress}
use Rattle.element.specs.declared.PathInfo.{PathInfo}
use Rattle.element.specs.declared.RreqFields.{RreqFields}
use Rattle.element.specs.declared.RrepFields.{RrepFields}
use Rattle.element.specs.declared.Target.{Target}
use Rattle.element.specs.Element.{Element, rann, rreq, rrep}
use Rattle.element.specs.Entries.{All}
use Rattle.element.specs.Lists.{all_ones}
use Rattle.element.proofs.Scans.{each_length}
use Rattle.element.specs.Flags.{reply_wanted, unicast, has_do, number_unknown}
use Rattle.rules.specs.Exit.{Frame}
use Rattle.rules.specs.declared.Arrival.{Arrival}
use Rattle.rules.specs.Destinations.{Answered, own_reply, row_reply, answered_number, answers_for, for_oneself, for_all_ones, for_another, answered, all_answered}
use Rattle.rules.specs.Onward.{onward, sent_to, to_all, if_ttl_left, rann_onward, rreq_onward, rrep_onward}
use Rattle.rules.specs.Errors.{error_at, errors_taken, errors_for}
use Rattle.rules.proofs.Branches.{cond_cases}
use Rattle.rules.proofs.Alls.{all_append, all_between}

-- States that Q holds for all frames, and that there are at most n.
pub record Emits (Q : Frame → Type 0) (n : ℕ) (frames : List Frame) : Type 0 where
  pub each : All Q frames
  pub few : length frames ≤ n

-- The receivers to which a point with the table t forwards an element at clock c: all ones, or an active next hop.
pub data GoesTo (t : List ℕ) (c : ℕ) : Address → Type 0 where
  all : GoesTo t c all_ones
  next : (d to : Address) → active_next c (row_for t d) ≡ Some to → GoesTo t c to

-- A point sends an intermediate reply only from a row of known number.
answers_known : (c : ℕ) (q : Target) (r : Row) → answers_for c q r ≡ true → eqb r.known 1 ≡ true
unfolding answers_for
answers_known c q r h =
    let fresh : Bool = number_unknown q || not (older r.number q.number) in
    let first = (and-eq-true_iff (not (has_do q) && active c r && eqb r.known 1) fresh).0 h in
    ((and-eq-true_iff (not (has_do q) && active c r) (eqb r.known 1)).0 first.0).1

module _ (Q : Frame → Type 0) where
  none_emitted : (n : ℕ) → Emits Q n []
  unfolding All
  none_emitted n = record { each = tt; few = omega arith }

  one_emitted : (f : Frame) → Q f → Emits Q 1 (f ∷ [])
  unfolding All
  one_emitted f h = record { each = (h, tt); few = omega arith }

  pub to_all_emitted : (e : Element) → Q (record { receiver = all_ones; element = e }) → Emits Q 1 (to_all e)
  to_all_emitted e h = one_emitted _ h

  -- ---- forwarding

  sent_emitted : (e : Element) (o : Option Address) → ((to : Address) → o ≡ Some to → Q (record { receiver = to; element = e })) → Emits Q 1 (sent_to e o)
  sent_emitted e None h = none_emitted 1
  sent_emitted e (Some to) h = one_emitted _ (h to refl)

  if_ttl_left_emitted : (p : PathInfo) (frames : List Frame) → Emits Q 1 frames → Emits Q 1 (if_ttl_left p frames)
  if_ttl_left_emitted p frames h = cond_cases (Emits Q 1) (ltb p.ttl 2) (λ _. none_emitted 1) (λ _. h)

  pub rann_emitted : (a : Arrival) (p : PathInfo) → Q (record { receiver = all_ones; element = rann (onward a p) }) → Emits Q 1 (rann_onward a p)
  unfolding rann_onward
  rann_emitted a p h = if_ttl_left_emitted p (to_all (rann (onward a p))) (to_all_emitted (rann (onward a p)) h)

  module _ (u : List ℕ) (a : Arrival) where
    pub rreq_emitted : (f : RreqFields) (kept : List Target)
        → ((to : Address) → GoesTo u a.clock to → 1 ≤ length kept
        → Q (record { receiver = to; element = rreq (record { request = f.request; path = onward a f.path }) kept }))
        → Emits Q 1 (rreq_onward u a f kept)
    unfolding rreq_onward
    rreq_emitted f [] h = none_emitted 1
    rreq_emitted f (q ∷ qs) h =
        if_ttl_left_emitted f.path _
        (cond_cases (Emits Q 1) (unicast f.path)
        (λ _. sent_emitted _ (active_next a.clock (row_for u q.address)) (λ to is. h to (next q.address to is) (omega arith)))
        (λ _. to_all_emitted _ (h all_ones all (omega arith))))

    pub rrep_emitted : (f : RrepFields) (dependents : List NumberedAddress)
        → ((to : Address) → GoesTo u a.clock to
        → Q (record { receiver = to; element = rrep (record { path = onward a f.path; source = f.source }) dependents }))
        → Emits Q 1 (rrep_onward u a f dependents)
    unfolding rrep_onward
    rrep_emitted f dependents h =
        cond_cases (Emits Q 1) (same f.source.address (own u)) (λ _. none_emitted 1)
        (λ _. sent_emitted _ (active_next a.clock (row_for u f.source.address)) (λ to is. h to (next f.source.address to is)))

    -- ---- replies: of the point for itself, under a stepped number, and from a row of known number

    module _ (p : PathInfo) (oneself : (n : SequenceNumber) → Q (own_reply a p (own u) (next_number n)))
        (from_row : (d : Address) (r : Row) → row_for u d ≡ Some r → eqb r.known 1 ≡ true → Q (row_reply a p r)) where
      abbrev Replies : ℕ → Answered → Type 0
      Replies n x = Emits Q n x.replies

      oneself_answered : (n : SequenceNumber) (q : Target) → Replies 1 (for_oneself u a p n q)
      unfolding for_oneself answered_number
      oneself_answered n q = one_emitted _ (oneself _)

      all_ones_answered : (n : SequenceNumber) (q : Target) → Replies 1 (for_all_ones u a p n q)
      unfolding for_all_ones
      all_ones_answered n q = cond_cases (Replies 1) (reply_wanted p) (λ _. one_emitted _ (oneself n)) (λ _. none_emitted 1)

      another_answered : (n : SequenceNumber) (q : Target) (o : Option Row) → row_for u q.address ≡ o → Replies 1 (for_another u a p n q o)
      unfolding for_another
      another_answered n q None found = none_emitted 1
      another_answered n q (Some r) found =
          cond_cases (Replies 1) (answers_for a.clock q r)
          (λ e. one_emitted _ (from_row q.address r found (answers_known a.clock q r e))) (λ _. none_emitted 1)

      pub one_answered : (n : SequenceNumber) (q : Target) → Replies 1 (answered u a p n q)
      unfolding answered
      one_answered n q =
          cond_cases (Replies 1) (same q.address (own u)) (λ _. oneself_answered n q)
          (λ _. cond_cases (Replies 1) (same q.address all_ones) (λ _. all_ones_answered n q)
          (λ _. another_answered n q (row_for u q.address) refl))

      -- There is at most one reply for each destination.
      pub replies_emitted : (n : SequenceNumber) (targets : List Target) → Replies (length targets) (all_answered u a p n targets)
      unfolding all_answered
      replies_emitted n [] = none_emitted 0
      replies_emitted n (q ∷ qs) =
          let this : Answered = answered u a p n q in
          let rest : Answered = all_answered u a p this.number qs in
          let first : Replies 1 this = one_answered n q in
          let others : Replies (length qs) rest = replies_emitted this.number qs in
          record {
            each = all_append Q this.replies rest.replies first.each others.each;
            few = omega (arith, length-append this.replies rest.replies, first.few, others.few);
          }

  -- ---- the errors of a break

  pub errors_emitted : (entries : List LostDestination) → ((i : ℕ) → i < errors_taken (length entries) → Q (error_at entries i))
      → Emits Q (errors_taken (length entries)) (errors_for entries)
  unfolding errors_for
  errors_emitted entries h =
      let n : ℕ = errors_taken (length entries) in
      record {
        each = all_between Q (error_at entries) 0 n (λ k _ l. h k (omega (arith, l)));
        few = omega (arith, each_length (error_at entries) 0 n);
      }
