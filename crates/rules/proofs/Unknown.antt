-- Laws of numbers that are marked unknown: the own number steps by one, a destination that is kept keeps its mark, and only 0 is
-- marked.
use Rattle.rules.specs.Lists.{any}
use Rattle.std.specs.Prelude.{Ok, Option, None, Some}
use Prim.Native.Nat.{ℕ, ◌+◌, ◌*◌, ◌/◌, ◌%◌, ◌^◌, ◌<◌, ◌≤◌}
use mathlib.Core.Path.{◌≡◌, refl, sym, ap, subst, ◌∙◌}
use mathlib.Core.Bool.{Bool, true, false, ◌&&◌, ◌||◌, and-true, and-false}
use mathlib.Core.List.{List, [], ◌∷◌, ◌++◌, append-nil, map}
use lib.Dec.{eqb, ltb}
use lib.ListN.{length, length-append, length-map}
use native.Mathlib.Omega.{arith}
use borrow.Author.Tests.{eqb-true, ltb-false}
use Rattle.octets.specs.LittleEndian.{Octets}
use Rattle.octets.proofs.Tests.{neither}
use Rattle.counters.specs.declared.SequenceNumber.{SequenceNumber}
use Rattle.counters.specs.Numbers.{next_number}
use Rattle.layout.specs.declared.address.Address.{Address}
use Rattle.layout.specs.declared.row.Head.{Head}
use Rattle.layout.specs.declared.row.Row.{Row}
use Rattle.layout.specs.Address.{same}
use Rattle.layout.specs.Row.{is_through}
use Rattle.table.specs.Table.{own, number, request_id, row_for}
use Rattle.element.specs.declared.Item.{Item}
use Rattle.element.specs.declared.PathInfo.{PathInfo}
use Rattle.element.specs.declared.RreqFields.{RreqFields}
use Rattle.element.specs.declared.Target.{Target}
use Rattle.element.specs.declared.list.ListKind.TheVariants.{Items}
use Rattle.element.specs.Element.{Element, rann, rreq, rrep, rerr, targets_of}
use Rattle.element.specs.Entries.{All, items_in}
use Rattle.element.specs.Flags.{bit, number_unknown, reply_wanted, has_rf, with_do, unicast}
use Rattle.element.specs.Lists.{addresses_in, all_ones, contains, has_duplicate, ones_beside_others}
use Rattle.element.specs.Octets.{read_element}
use Rattle.rules.specs.Exit.{Frame, Lent, Effect}
use Rattle.rules.specs.declared.Arrival.{Arrival}
use Rattle.rules.specs.Learn.{learnt}
use Rattle.rules.specs.Destinations.{Answered, reply, answered_number, answers_for, for_oneself, for_all_ones, for_another, answered, all_answered}
use Rattle.rules.specs.Errors.{broken_entries, error_at}
use Rattle.rules.specs.Receive.{target_addresses, several_or_all, is_mismarked, has_bad_list, rann_received, rrep_received, rreq_received, rerr_received, received, receiving, receive}
use Rattle.rules.specs.Originate.{announced, requested, has_high_flags, with_known, without_known, asked_by, asked_for, asking, ask, announcing, announce, root_target, requesting_as_root, root_request}
use Rattle.rules.specs.Break.{broken_off, breaking, break_neighbour}
use Rattle.rules.specs.Calls.{Call, receives, makes, asks, announces, requests_as_root, breaks, decision}
use Rattle.rules.proofs.Rulings.{listed, passed, passed_check}
use Rattle.rules.proofs.Branches.{cond_cases}
use Rattle.rules.proofs.Alls.{all_one, all_implies, all_append, all_before, all_after, all_map, apart, apart_from, any_fails, each_fails}
use Rattle.rules.proofs.Tables.{Keeps, number_fits, request_fits, head_number}
use Rattle.rules.proofs.Learning.{learnt_keeps}
use Rattle.rules.proofs.Emitting.{to_all_emitted, rann_emitted, rreq_emitted, rrep_emitted, replies_emitted, errors_emitted}
use Rattle.rules.proofs.Sending.{all_answered_fits}
use Rattle.rules.proofs.Accepted.{Accepted, accepted_element}

-- ---- the own number after the destinations of a RREQ

-- States that no destination has the address d.
abbrev Without : Address → List Target → Type 0
Without d = All (λ (q : Target). same q.address d ≡ false)

module _ (u : List ℕ) (a : Arrival) (p : PathInfo) where
  another_leaves : (n : SequenceNumber) (q : Target) (o : Option Row) → (for_another u a p n q o).number ≡ n
  unfolding for_another
  another_leaves n q None = refl
  another_leaves n q (Some r) = cond_cases (λ (x : Answered). x.number ≡ n) (answers_for a.clock q r) (λ _. refl) (λ _. refl)

  -- A destination that is neither this point nor all ones leaves the own number.
  other_leaves : (n : SequenceNumber) (q : Target) → same q.address (own u) ≡ false → same q.address all_ones ≡ false → (answered u a p n q).number ≡ n
  unfolding answered
  other_leaves n q not_own not_ones = rw (not_own, not_ones) (another_leaves n q (row_for u q.address))

  -- The destinations qs leave the own number to those after them.
  others_leave : (qs rs : List Target) → Without (own u) qs → Without all_ones qs
      → (n : SequenceNumber) → (all_answered u a p n (qs ++ rs)).number ≡ (all_answered u a p n rs).number
  unfolding all_answered All
  others_leave [] rs not_own not_ones n = refl
  others_leave (q ∷ qs) rs not_own not_ones n =
      ap (λ (m : SequenceNumber). (all_answered u a p m (qs ++ rs)).number) (other_leaves n q not_own.0 not_ones.0)
      ∙ others_leave qs rs not_own.1 not_ones.1 n

  unknown_steps : (n : SequenceNumber) (q : Target) → same q.address (own u) ≡ true → number_unknown q ≡ true → (answered u a p n q).number ≡ next_number n
  unfolding answered for_oneself answered_number
  unknown_steps n q self unknown = rw (self, unknown)

  -- This point is asked for once, with an unknown number, and nothing else is asked for that steps the own number.
  steps_once : (before after : List Target) (q : Target) → Without (own u) before → Without all_ones before → Without (own u) after → Without all_ones after
      → same q.address (own u) ≡ true → number_unknown q ≡ true → (n : SequenceNumber) → (all_answered u a p n (before ++ q ∷ after)).number ≡ next_number n
  unfolding all_answered
  steps_once before after q own-before ones-before own-after ones-after self unknown n =
      others_leave before (q ∷ after) own-before ones-before n
      ∙ ap (λ (m : SequenceNumber). (all_answered u a p m after).number) (unknown_steps n q self unknown)
      ∙ ap (λ (l : List Target). (all_answered u a p (next_number n) l).number) (sym (append-nil after))
      ∙ others_leave after [] own-after ones-after (next_number n)

-- ---- the destinations of an accepted RREQ

-- What refusal 10 guarantees for the destinations of a RREQ, as far as the laws below use it.
record GoodList (targets : List Target) : Type 0 where
  once : has_duplicate (target_addresses targets) ≡ false
  ones : ones_beside_others (target_addresses targets) ≡ false
  fair : any is_mismarked targets ≡ false

good_list : (f : RreqFields) (targets : List Target) → has_bad_list (rreq f targets) ≡ false → GoodList targets
unfolding has_bad_list
good_list f targets e =
    let addresses : List Address = target_addresses targets in
    let duplicate : Bool = has_duplicate addresses in
    let ones : Bool = ones_beside_others addresses in
    let named : Bool = contains addresses f.path.subject in
    let many : Bool = unicast f.path && several_or_all addresses in
    let last = neither (duplicate || ones || named || many) (any is_mismarked targets) e in
    let first = neither duplicate ones (neither (duplicate || ones) named (neither (duplicate || ones || named) many last.0).0).0 in
    record { once = first.0; ones = first.1; fair = last.1 }

module _ (before after : List Target) (q : Target) where
  abbrev targets : List Target
  targets = before ++ q ∷ after

  abbrev addresses : List Address
  addresses = target_addresses targets

  alone : (P : Target → Type 0) → length targets ≤ 1 → All P before × All P after
  unfolding All
  alone P short = by before after short
    where
      by : (k l : List Target) → length (k ++ q ∷ l) ≤ 1 → All P k × All P l
      by [] [] short = (tt, tt)
      by [] (x ∷ l) short = absurd (omega arith)
      by (x ∷ k) l short = absurd (omega (arith, length-append k (q ∷ l)))

  -- Refusal 10 lets all ones pass only if nothing else is named.
  no_ones : ones_beside_others addresses ≡ false → Without all_ones before × Without all_ones after
  unfolding ones_beside_others All
  no_ones e = by (ltb 1 (length addresses)) refl
    where
      by : (b : Bool) → ltb 1 (length addresses) ≡ b → Without all_ones before × Without all_ones after
      by true many =
          let none_named : contains addresses all_ones ≡ false = sym (and-true (contains addresses all_ones)) ∙ ap (λ (c : Bool). contains addresses all_ones && c) (sym many) ∙ e in
          let each = apart (λ (k : Target). k.address) all_ones targets none_named in (
            all_before (λ (k : Target). same k.address all_ones ≡ false) before (q ∷ after) each,
            (all_after (λ (k : Target). same k.address all_ones ≡ false) before (q ∷ after) each).1,
          )
      by false few = alone (λ (k : Target). same k.address all_ones ≡ false) (omega (arith, ltb-false 1 (length addresses) few, length-map targets (λ (k : Target). k.address)))

  -- No other destination is this point.
  not_again : (d : Address) → same q.address d ≡ true → has_duplicate addresses ≡ false → Without d before × Without d after
  not_again d self once =
      let apart_q = apart_from (λ (k : Target). k.address) before after q once in
      subst (λ (n : ℕ). All (λ (k : Target). eqb k.address.0 n ≡ false) before × All (λ (k : Target). eqb k.address.0 n ≡ false) after)
      (eqb-true q.address.0 d.0 self) apart_q

-- ---- the call

module _ (l : Lent) (octets : Octets l.table) (room : ℕ) (a : Arrival) (s : List ℕ) (transmitter_fits : a.transmitter.0 < 256 ^ 6) (s_octets : Octets s) where
  pub just_steps : (f : RreqFields) (before after : List Target) (q : Target) → read_element s ≡ rreq f (before ++ q ∷ after)
      → same q.address (own l.table) ≡ true → number_unknown q ≡ true
      → (e : Effect) → receive l room a s ≡ Ok e → number e.lent.table ≡ next_number (number l.table)
  unfolding listed receive received rreq_received
  just_steps f before after q is-rreq self unknown e is =
      let p = passed (receiving l room a s) e is in
      let t : List ℕ = l.table in
      let targets : List Target = before ++ q ∷ after in
      let u : List ℕ = learnt a f.path t in
      let done : Answered = all_answered u a f.path (number t) targets in
      let ok : Accepted t a (rreq f targets) = subst (Accepted t a) is-rreq (accepted_element l room a s octets transmitter_fits s_octets p.0) in
      let good : GoodList targets = good_list f targets (ap has_bad_list (sym is-rreq) ∙ passed_check 10 (receiving l room a s).checks p.0) in
      let k : Keeps t u = learnt_keeps t a f.path (ok.heard f.path refl) in
      let own_same : own u ≡ own t = ap (λ (h : Head). h.own) k.head in
      let self_u : same q.address (own u) ≡ true = rw own_same self in
      let not_own = not_again before after q (own u) self_u good.once in
      let not_ones = no_ones before after q good.ones in
      let stepped : done.number ≡ next_number (number t) =
      steps_once u a f.path before after q not_own.0 not_ones.0 not_own.1 not_ones.1 self_u unknown (number t) in
      let fits = all_answered_fits u a f.path (number t) (number_fits t ok.whole) targets ok.fits.entries in
      let effect : e ≡ rreq_received l a f targets = sym p.1 ∙ ap (received l a) is-rreq in
      ap (λ (x : Effect). number x.lent.table) effect
      ∙ head_number t u ok.whole k done.number (request_id t) a.clock fits.number (request_fits t ok.whole) ok.clock
      ∙ stepped

-- ---- what is kept of a destination

-- States that k has the address, the number and the mark of q.
abbrev pub KeepsMark : Target → Target → Type 0
KeepsMark q k = (k.address ≡ q.address) × (k.number ≡ q.number) × (number_unknown k ≡ number_unknown q)

with_do_keeps : (q : Target) → KeepsMark q (with_do q)
unfolding with_do bit
with_do_keeps q =
    let kept : (2 * (q.flags / 2) + 1) / 4 % 2 ≡ q.flags / 4 % 2 = omega arith in
    (refl, refl, ap (λ (b : ℕ). eqb b 1) kept)

module _ (u : List ℕ) (a : Arrival) (p : PathInfo) (n : SequenceNumber) (q : Target) where
  abbrev KeptSo : Answered → Type 0
  KeptSo x = All (KeepsMark q) x.kept

  as_received : KeepsMark q q
  as_received = (refl, refl, refl)

  another_keeps : (o : Option Row) → KeptSo (for_another u a p n q o)
  unfolding for_another All
  another_keeps None = (as_received, tt)
  another_keeps (Some r) =
      cond_cases KeptSo (answers_for a.clock q r)
      (λ _. cond_cases (All (KeepsMark q)) (has_rf q) (λ _. all_one (KeepsMark q) (with_do q) (with_do_keeps q)) (λ _. tt)) (λ _. (as_received, tt))

  pub keeps_mark : KeptSo (answered u a p n q)
  unfolding answered for_oneself for_all_ones All
  keeps_mark =
      cond_cases KeptSo (same q.address (own u)) (λ _. tt)
      (λ _. cond_cases KeptSo (same q.address all_ones)
      (λ _. cond_cases KeptSo (reply_wanted p) (λ _. (as_received, tt)) (λ _. (as_received, tt)))
      (λ _. another_keeps (row_for u q.address)))

-- ---- what is marked

-- States that a destination is not marked, or that its number is 0.
abbrev Fair : Target → Type 0
Fair q = is_mismarked q ≡ false

kept_fair : (q : Target) → Fair q → (k : Target) → KeepsMark q k → Fair k
kept_fair q fair k kept = rw (kept.2, kept.1) fair

module _ (u : List ℕ) (a : Arrival) (p : PathInfo) where
  all_kept_fair : (qs : List Target) → All Fair qs → (n : SequenceNumber) → All Fair (all_answered u a p n qs).kept
  unfolding all_answered All
  all_kept_fair [] fair n = tt
  all_kept_fair (q ∷ qs) fair n =
      let this : Answered = answered u a p n q in
      all_append Fair this.kept (all_answered u a p this.number qs).kept
      (all_implies (KeepsMark q) Fair (kept_fair q fair.0) this.kept (keeps_mark u a p n q)) (all_kept_fair qs fair.1 this.number)

-- An ask marks a number only where it writes 0.
unmarked_fair : (i : Item) (n : SequenceNumber) → has_high_flags i ≡ false → Fair (with_known i n)
unfolding bit
unmarked_fair i n low =
    let flags_low = ltb-false 3 i.flags low in
    let clear : i.flags / 4 % 2 ≡ 0 = omega (arith, flags_low) in
    rw clear

marked_fair : (i : Item) → Fair (without_known i)
marked_fair i = and-false (number_unknown (without_known i))

asked_fair : (t : List ℕ) (i : Item) → has_high_flags i ≡ false → Fair (asked_for t i)
unfolding asked_for asked_by
asked_fair t i low = by (row_for t i.address)
  where
    by : (o : Option Row) → Fair (asked_by i o)
    by None = marked_fair i
    by (Some r) = cond_cases Fair (eqb r.known 1) (λ _. unmarked_fair i r.number low) (λ _. marked_fair i)

-- ---- every call

-- States that a frame marks no number but 0.
abbrev pub MarksZero : Frame → Type 0
MarksZero f = any is_mismarked (targets_of f.element) ≡ false

module _ (l : Lent) where
  received_marks : (a : Arrival) (e : Element) → has_bad_list e ≡ false → All MarksZero (received l a e).frames
  unfolding received rann_received rrep_received rreq_received rerr_received reply
  received_marks a (rann p) good = (rann_emitted MarksZero a p refl).each
  received_marks a (rreq f targets) good =
      let t : List ℕ = l.table in
      let u : List ℕ = learnt a f.path t in
      let done : Answered = all_answered u a f.path (number t) targets in
      let fair : All Fair targets = each_fails is_mismarked targets (good_list f targets good).fair in
      all_append MarksZero done.replies _
      (replies_emitted MarksZero u a f.path (λ k. refl) (λ d r found known. refl) (number t) targets).each
      (rreq_emitted MarksZero u a f done.kept (λ to goes Some. any_fails is_mismarked done.kept (all_kept_fair u a f.path targets fair (number t)))).each
  received_marks a (rrep f dependents) good = (rrep_emitted MarksZero (learnt a f.path l.table) a f dependents (λ to goes. refl)).each
  received_marks a (rerr f destinations) good = (to_all_emitted MarksZero _ refl).each

  requested_marks : (flags lifetime : ℕ) (targets : List Target) → All Fair targets → All MarksZero (requested l flags lifetime targets).frames
  unfolding requested
  requested_marks flags lifetime targets fair = (to_all_emitted MarksZero _ (any_fails is_mismarked targets fair)).each

  module _ (room : ℕ) where
    receive_marks : (a : Arrival) (s : List ℕ) (e : Effect) → receive l room a s ≡ Ok e → All MarksZero e.frames
    unfolding listed receive
    receive_marks a s e is =
        let p = passed (receiving l room a s) e is in
        rw (← p.1) (received_marks a (read_element s) (passed_check 10 (receiving l room a s).checks p.0))

    ask_marks : (lifetime : ℕ) (items : List ℕ) (e : Effect) → ask l room lifetime items ≡ Ok e → All MarksZero e.frames
    unfolding listed ask
    ask_marks lifetime items e is =
        let p = passed (asking l room lifetime items) e is in
        let low = (neither (has_duplicate (addresses_in Items items)) (any has_high_flags (items_in items)) (passed_check 10 (asking l room lifetime items).checks p.0)).1 in
        rw (← p.1)
        (requested_marks 0 lifetime (map (asked_for l.table) (items_in items))
        (all_map Fair (λ (i : Item). has_high_flags i ≡ false) (asked_for l.table) (asked_fair l.table) (items_in items) (each_fails has_high_flags (items_in items) low)))

    announce_marks : (flags lifetime : ℕ) (e : Effect) → announce l room flags lifetime ≡ Ok e → All MarksZero e.frames
    unfolding announce announced
    announce_marks flags lifetime e is = rw (← (passed (announcing l room flags lifetime) e is).1) (to_all_emitted MarksZero _ refl).each

    root_marks : (flags lifetime : ℕ) (e : Effect) → root_request l room flags lifetime ≡ Ok e → All MarksZero e.frames
    unfolding root_request bit
    root_marks flags lifetime e is =
        rw (← (passed (requesting_as_root l room flags lifetime) e is).1) (requested_marks flags lifetime (root_target ∷ []) (all_one Fair root_target refl))

    break_marks : (c : ℕ) (neighbour : Address) (e : Effect) → break_neighbour l room c neighbour ≡ Ok e → All MarksZero e.frames
    unfolding listed break_neighbour broken_off error_at
    break_marks c neighbour e is =
        rw (← (passed (breaking l room c neighbour) e is).1)
        (errors_emitted MarksZero (broken_entries (is_through c neighbour) l.table) (λ i small. refl)).each

    pub call_marks : (call : Call) (e : Effect) → decision l room call ≡ Ok e → All MarksZero e.frames
    unfolding decision
    call_marks (receives a s) e is = receive_marks a s e is
    call_marks (makes (asks lifetime items)) e is = ask_marks lifetime items e is
    call_marks (makes (announces flags lifetime)) e is = announce_marks flags lifetime e is
    call_marks (makes (requests_as_root flags lifetime)) e is = root_marks flags lifetime e is
    call_marks (makes (breaks c neighbour)) e is = break_marks c neighbour e is
