-- Every accepted call leaves a table, and emits frames that fit their octets.
use Rattle.rules.specs.Lists.{any, filter}
use Rattle.std.specs.Prelude.{Ok, Option, None, Some}
use Prim.Native.Nat.{ℕ, ◌-◌, ◌*◌, ◌/◌, ◌%◌, ◌^◌, ◌<◌, ◌≤◌}
use mathlib.Core.Path.{◌≡◌, refl, ◌∙◌}
use mathlib.Core.Bool.{Bool, true, false, not, ◌&&◌, and-eq-true_iff, true≢false}
use mathlib.Core.List.{List, [], ◌∷◌, map}
use lib.Dec.{eqb, leb, ltb}
use lib.ListN.{length, length-map}
use native.Mathlib.Omega.{arith}
use borrow.Author.Tests.{ltb-false, ltb-true, leb-true, not-false, ne_eqb}
use Rattle.octets.specs.LittleEndian.{Octets, fields_at}
use Rattle.octets.proofs.Laws.{FitFields, fields_fit}
use Rattle.counters.specs.declared.SequenceNumber.{SequenceNumber}
use Rattle.counters.specs.declared.RequestId.{RequestId}
use Rattle.counters.specs.Numbers.{stepped, next_number, next_request}
use Rattle.counters.specs.Numbering.{advanced_for}
use Rattle.layout.specs.declared.address.Address.{Address}
use Rattle.layout.specs.declared.row.Row.{Row}
use Rattle.layout.specs.Row.{head_with, is_through}
use Rattle.layout.specs.Layout.{head_at, put_head}
use Rattle.table.specs.Table.{number, request_id, clock, row_for}
use Rattle.table.proofs.Lookup.{row_fits_its_octets}
use Rattle.element.specs.declared.Item.{Item}
use Rattle.element.specs.declared.Kind.TheVariants.{Rreq, Rrep, Rerr}
use Rattle.element.specs.declared.LostDestination.{LostDestination}
use Rattle.element.specs.declared.NumberedAddress.{NumberedAddress}
use Rattle.element.specs.declared.PathInfo.{PathInfo}
use Rattle.element.specs.declared.RreqFields.{RreqFields}
use Rattle.element.specs.declared.RrepFields.{RrepFields}
use Rattle.element.specs.declared.RerrFields.{RerrFields}
use Rattle.element.specs.declared.Target.{Target}
use Rattle.element.specs.Element.{Element, rann, rreq, rrep, rerr}
use Rattle.element.specs.Octets.{read_element}
use Rattle.element.specs.Layout.{item_widths}
use Rattle.element.specs.Entries.{All, item_at, items_in}
use Rattle.element.proofs.Lengths.{count_range}
use Rattle.element.proofs.Scans.{each_length}
use Rattle.element.proofs.ListParts.{all_each, FitsTarget, FitsNumbered, FitsLost}
use Rattle.rules.specs.Decision.{Check}
use Rattle.element.specs.Flags.{with_unknown}
use Rattle.rules.specs.Exit.{Lent, Effect}
use Rattle.rules.specs.declared.Arrival.{Arrival}
use Rattle.rules.specs.Learn.{learnt}
use Rattle.rules.specs.Destinations.{Answered, all_answered}
use Rattle.rules.specs.Onward.{rreq_onward}
use Rattle.rules.specs.Errors.{matches, broken_entries}
use Rattle.rules.specs.Receive.{matches_nothing, rann_received, rrep_received, rreq_received, rerr_received, received, receiving, receive}
use Rattle.rules.specs.Originate.{numbered_head, own_path, announced, requested, items_fit, with_known, without_known, asked_by, asked_for, asking, ask, announcing, announce, is_root_flags, root_target, requesting_as_root, root_request}
use Rattle.rules.specs.Break.{broken_off, breaking, break_neighbour}
use Rattle.rules.specs.Calls.{Call, receives, makes, asks, announces, requests_as_root, breaks, decision, OperandsFit}
use Rattle.rules.proofs.Rulings.{listed, passed, passed_check}
use Rattle.rules.proofs.Branches.{cond_cases}
use Rattle.rules.proofs.Alls.{all_one, all_append, all_map, all_filter, filter_fewer, filter_some}
use Rattle.rules.proofs.Tables.{Whole, whole, Keeps, Leaves, own_fits, number_fits, request_fits, clock_small, head_leaves}
use Rattle.rules.proofs.Learning.{PathFits, Heard, learnt_keeps}
use Rattle.rules.proofs.Falling.{next_fits, through_acts, break_keeps, error_keeps}
use Rattle.rules.proofs.Sending.{FrameFits, FramesFit, to_all_fits, AnsweredFits, replies_fit, rann_fits, rreq_fits, rerr_fits, rann_onward_fits, rreq_onward_fits, rrep_onward_fits, all_answered_fits, entries_fit, errors_fit}
use Rattle.rules.proofs.Accepted.{Accepted, accepted_element}

-- States that a call leaves a table with the own address and length of t, and that all frames that it emits fit their octets.
pub record Kept (t : List ℕ) (e : Effect) : Type 0 where
  pub leaves : Leaves t e.lent.table
  pub frames : FramesFit e.frames

-- ---- receive

module _ (l : Lent) (a : Arrival) where
  -- The head of t over the rows of u, with the own number n and the clock of the call.
  module _ (e : Element) (ok : Accepted l.table a e) (u : List ℕ) (k : Keeps l.table u) where
    at_clock : (n : SequenceNumber) → n.0 < 256 ^ 4 → Leaves l.table (put_head u (head_with n (request_id l.table) a.clock (head_at l.table)))
    at_clock n fits = head_leaves l.table u ok.whole k n (request_id l.table) a.clock fits (request_fits l.table ok.whole) ok.clock

  rann_kept : (p : PathInfo) → Accepted l.table a (rann p) → Kept l.table (rann_received l a p)
  unfolding rann_received
  rann_kept p ok =
      let h : Heard l.table a p = ok.heard p refl in
      record {
        leaves = at_clock (rann p) ok (learnt a p l.table) (learnt_keeps l.table a p h) (number l.table) (number_fits l.table ok.whole);
        frames = rann_onward_fits a p h.fits h.hops h.metric;
      }

  rrep_kept : (f : RrepFields) (dependents : List NumberedAddress) → Accepted l.table a (rrep f dependents) → Kept l.table (rrep_received l a f dependents)
  unfolding rrep_received FitFields
  rrep_kept f dependents ok =
      let h : Heard l.table a f.path = ok.heard f.path refl in
      let source : FitsNumbered f.source = search ok.fits.fields in
      record {
        leaves = at_clock (rrep f dependents) ok (learnt a f.path l.table) (learnt_keeps l.table a f.path h) (number l.table) (number_fits l.table ok.whole);
        frames = rrep_onward_fits a f h.fits h.hops h.metric (learnt a f.path l.table) (learnt_keeps l.table a f.path h).whole.octets dependents
            source ok.fits.entries (count_range Rrep (length dependents) ok.fits.count).1;
      }

  rreq_kept : (f : RreqFields) (targets : List Target) → Accepted l.table a (rreq f targets) → Kept l.table (rreq_received l a f targets)
  unfolding rreq_received FitFields
  rreq_kept f targets ok =
      let h : Heard l.table a f.path = ok.heard f.path refl in
      let u : List ℕ = learnt a f.path l.table in
      let k : Keeps l.table u = learnt_keeps l.table a f.path h in
      let done : Answered = all_answered u a f.path (number l.table) targets in
      let fit : AnsweredFits (length targets) done = all_answered_fits u a f.path (number l.table) (number_fits l.table ok.whole) targets ok.fits.entries in
      let request : f.request.0 < 256 ^ 4 = search ok.fits.fields in
      let few = (count_range Rreq (length targets) ok.fits.count).1 in
      record {
        leaves = at_clock (rreq f targets) ok u k done.number fit.number;
        frames = all_append FrameFits done.replies (rreq_onward u a f done.kept)
            (replies_fit u k.whole a h.transmitter_fits f.path h.fits (number l.table) targets)
            (rreq_onward_fits a f request h.fits h.hops h.metric u k.whole.octets done.kept fit.kept
            (omega (arith, few, fit.fewer)));
      }

  rerr_kept : (f : RerrFields) (destinations : List LostDestination) → Accepted l.table a (rerr f destinations) → Kept l.table (rerr_received l a f destinations)
  unfolding rerr_received matches_nothing FitFields
  rerr_kept f destinations ok =
      let test : LostDestination → Bool = matches l.table a.clock a.transmitter in
      let few = (count_range Rerr (length destinations) ok.fits.count).1 in
      record {
        leaves = at_clock (rerr f destinations) ok _
            (error_keeps a.clock a.transmitter destinations ok.fits.entries l.table ok.whole) (number l.table) (number_fits l.table ok.whole);
        frames = all_one FrameFits _ (to_all_fits _
            (rerr_fits f (filter test destinations) ok.fits.fields.0 (all_filter FitsLost test destinations ok.fits.entries)
            (filter_some test destinations (not-false (any test destinations) ok.matched)) (omega (arith, few, filter_fewer test destinations))));
      }

  received_kept : (e : Element) → Accepted l.table a e → Kept l.table (received l a e)
  unfolding received
  received_kept (rann p) ok = rann_kept p ok
  received_kept (rreq f targets) ok = rreq_kept f targets ok
  received_kept (rrep f dependents) ok = rrep_kept f dependents ok
  received_kept (rerr f destinations) ok = rerr_kept f destinations ok

-- ---- originating

module _ (l : Lent) (w : Whole l.table) where
  -- A path under the next own number fits, whatever the request ID is.
  own_path_fits : (request : RequestId) (flags lifetime : ℕ) → flags < 256 ^ 1 → lifetime < 256 ^ 4
      → PathFits (own_path (head_with (next_number (number l.table)) request (clock l.table) (head_at l.table)) flags lifetime)
  unfolding own_path head_with
  own_path_fits request flags lifetime f short =
      record {
        flags = f;
        hops = omega arith;
        ttl = omega arith;
        subject = own_fits l.table w;
        number = next_fits (number l.table);
        lifetime = short;
        metric = omega arith;
      }

  same_table : Keeps l.table l.table
  same_table = record { whole = w; head = refl; length = refl }

  request_next_fits : (next_request (request_id l.table)).0 < 256 ^ 4
  unfolding stepped
  request_next_fits = omega arith

  announced_kept : (flags lifetime : ℕ) → flags < 256 ^ 1 → lifetime < 256 ^ 4 → Kept l.table (announced l flags lifetime)
  unfolding announced numbered_head advanced_for
  announced_kept flags lifetime f short =
      record {
        leaves = head_leaves l.table l.table w same_table (next_number (number l.table)) (request_id l.table) (clock l.table) (next_fits (number l.table)) (request_fits l.table w) (clock_small l.table w);
        frames = all_one FrameFits _ (to_all_fits _ (rann_fits _ (own_path_fits (request_id l.table) flags lifetime f short)));
      }

  requested_kept : (flags lifetime : ℕ) (targets : List Target) → flags < 256 ^ 1 → lifetime < 256 ^ 4 → All FitsTarget targets
      → 1 ≤ length targets → length targets ≤ 20 → Kept l.table (requested l flags lifetime targets)
  unfolding requested numbered_head advanced_for head_with
  requested_kept flags lifetime targets f short fit one few =
      record {
        leaves = head_leaves l.table l.table w same_table (next_number (number l.table)) (next_request (request_id l.table)) (clock l.table) (next_fits (number l.table)) request_next_fits
            (clock_small l.table w);
        frames = all_one FrameFits _ (to_all_fits _ (rreq_fits _ targets request_next_fits (own_path_fits (next_request (request_id l.table)) flags lifetime f short) fit one few));
      }

  -- The destinations of an ask fit.
  abbrev FitsItem : Item → Type 0
  FitsItem i = (i.flags < 256 ^ 1) × (i.address.0 < 256 ^ 6)

  item_fits : (s : List ℕ) → Octets s → (i : ℕ) → FitsItem (item_at s i)
  unfolding item_at fields_at FitFields
  item_fits s o i = let f = fields_fit item_widths s (7 * i) 0 o in (f.0, f.1.0)

  unknown_fits : (i : Item) → FitsItem i → FitsTarget (without_known i)
  unfolding with_unknown FitFields
  unknown_fits i f = let k = f.0 in (omega arith, (f.1, (omega arith, tt)))

  known_fits : (i : Item) → FitsItem i → (n : SequenceNumber) → n.0 < 256 ^ 4 → FitsTarget (with_known i n)
  unfolding FitFields
  known_fits i f n small = (f.0, (f.1, (small, tt)))

  asked_by_fits : (i : Item) → FitsItem i → (o : Option Row) → row_for l.table i.address ≡ o → FitsTarget (asked_by i o)
  unfolding asked_by
  asked_by_fits i f None e = unknown_fits i f
  asked_by_fits i f (Some r) e =
      cond_cases FitsTarget (eqb r.known 1)
      (λ _. known_fits i f r.number (row_fits_its_octets l.table i.address r e w.octets).number) (λ _. unknown_fits i f)

  asked_fits : (i : Item) → FitsItem i → FitsTarget (asked_for l.table i)
  unfolding asked_for
  asked_fits i f = asked_by_fits i f (row_for l.table i.address) refl

  asked_all_fit : (s : List ℕ) → Octets s → All FitsTarget (map (asked_for l.table) (items_in s))
  asked_all_fit s o = all_map FitsTarget FitsItem (asked_for l.table) asked_fits (items_in s) (all_each FitsItem (item_at s) (item_fits s o) 0 (length s / 7))

items_count : (s : List ℕ) → items_fit s ≡ true → (1 ≤ length s / 7) × (length s / 7 ≤ 20)
unfolding items_fit
items_count s e =
    let p = (and-eq-true_iff (eqb (length s % 7) 0 && leb 7 (length s)) (leb (length s) 140)).0 e in
    let q = (and-eq-true_iff (eqb (length s % 7) 0) (leb 7 (length s))).0 p.0 in
    let low = leb-true 7 (length s) q.1 in
    let high = leb-true (length s) 140 p.1 in
    (omega arith, omega arith)

-- The flags of an accepted root request are 0, 1, 4 or 5, so they fit an octet.
root_flags_small : (flags : ℕ) → not (is_root_flags flags) ≡ false → flags < 256 ^ 1
unfolding is_root_flags
root_flags_small flags e = by (ltb flags 6) refl
  where
    by : (b : Bool) → ltb flags 6 ≡ b → flags < 256 ^ 1
    by true l = omega (arith, ltb-true flags 6 l)
    by false l =
        let large = ltb-false flags 6 l in
        absurd
        (true≢false
        (rw (ne_eqb flags 0 (λ q. omega arith), ne_eqb flags 1 (λ q. omega arith), ne_eqb flags 4 (λ q. omega arith), ne_eqb flags 5 (λ q. omega arith)) at e))

-- ---- every call

module _ (l : Lent) (octets : Octets l.table) (room : ℕ) where
  receive_kept : (a : Arrival) (s : List ℕ) → a.transmitter.0 < 256 ^ 6 → Octets s → (e : Effect) → receive l room a s ≡ Ok e → Kept l.table e
  unfolding listed receive
  receive_kept a s fits o e is =
      let p = passed (receiving l room a s) e is in
      rw (← p.1) (received_kept l a (read_element s) (accepted_element l room a s octets fits o p.0))

  ask_kept : (lifetime : ℕ) (s : List ℕ) → lifetime < 256 ^ 4 → Octets s → (e : Effect) → ask l room lifetime s ≡ Ok e → Kept l.table e
  unfolding listed ask
  ask_kept lifetime s short o e is =
      let p = passed (asking l room lifetime s) e is in
      let checks : List Check = (asking l room lifetime s).checks in
      let w : Whole l.table = whole l.table octets (passed_check 1 checks p.0) (passed_check 21 checks p.0) in
      let targets : List Target = map (asked_for l.table) (items_in s) in
      let count = items_count s (not-false (items_fit s) (passed_check 8 checks p.0)) in
      let long : length targets ≡ length s / 7 = length-map (items_in s) (asked_for l.table) ∙ each_length (item_at s) 0 (length s / 7) in
      rw (← p.1) (requested_kept l w 0 lifetime targets (omega arith) short (asked_all_fit l w s o) (omega (arith, count, long)) (omega (arith, count, long)))

  announce_kept : (flags lifetime : ℕ) → lifetime < 256 ^ 4 → (e : Effect) → announce l room flags lifetime ≡ Ok e → Kept l.table e
  unfolding announce
  announce_kept flags lifetime short e is =
      let p = passed (announcing l room flags lifetime) e is in
      let checks : List Check = (announcing l room flags lifetime).checks in
      let w : Whole l.table = whole l.table octets (passed_check 1 checks p.0) (passed_check 21 checks p.0) in
      rw (← p.1) (announced_kept l w flags lifetime (omega (arith, ltb-false 1 flags (passed_check 10 checks p.0))) short)

  root_kept : (flags lifetime : ℕ) → lifetime < 256 ^ 4 → (e : Effect) → root_request l room flags lifetime ≡ Ok e → Kept l.table e
  unfolding root_request All FitFields
  root_kept flags lifetime short e is =
      let p = passed (requesting_as_root l room flags lifetime) e is in
      let checks : List Check = (requesting_as_root l room flags lifetime).checks in
      let w : Whole l.table = whole l.table octets (passed_check 1 checks p.0) (passed_check 21 checks p.0) in
      rw (← p.1)
      (requested_kept l w flags lifetime (root_target ∷ []) (root_flags_small flags (passed_check 10 checks p.0)) short
      ((omega arith, (omega arith, (omega arith, tt))), tt) (omega arith) (omega arith))

  break_kept : (c : ℕ) (neighbour : Address) (e : Effect) → break_neighbour l room c neighbour ≡ Ok e → Kept l.table e
  unfolding listed break_neighbour broken_off
  break_kept c neighbour e is =
      let p = passed (breaking l room c neighbour) e is in
      let checks : List Check = (breaking l room c neighbour).checks in
      let w : Whole l.table = whole l.table octets (passed_check 1 checks p.0) (passed_check 21 checks p.0) in
      rw (← p.1)
      (record {
        leaves = head_leaves l.table _ w (break_keeps (is_through c neighbour) c (through_acts c neighbour) l.table w) (number l.table) (request_id l.table) c (number_fits l.table w) (request_fits l.table w)
            (ltb-false (2 ^ 48 - 1) c (passed_check 3 checks p.0));
        frames = errors_fit (broken_entries (is_through c neighbour) l.table) (entries_fit l.table octets (is_through c neighbour));
      })

  pub call_kept : (call : Call) → OperandsFit call → (e : Effect) → decision l room call ≡ Ok e → Kept l.table e
  unfolding decision
  call_kept (receives a s) fit e is = receive_kept a s fit.0 fit.1 e is
  call_kept (makes (asks lifetime items)) fit e is = ask_kept lifetime items fit.0 fit.1 e is
  call_kept (makes (announces flags lifetime)) fit e is = announce_kept flags lifetime fit e is
  call_kept (makes (requests_as_root flags lifetime)) fit e is = root_kept flags lifetime fit e is
  call_kept (makes (breaks c neighbour)) fit e is = break_kept c neighbour e is
