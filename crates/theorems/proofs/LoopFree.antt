-- Demand 3: within its premise, no walk along valid rows meets a point twice, whatever calls the points of a mesh make.
use Rattle.rules.specs.Lists.{all}
use Rattle.std.specs.Prelude.{Err, Ok, Option, None, Some, slice_get}
use Prim.Native.Nat.{ℕ, zero, suc, ◌+◌, ◌*◌, ◌^◌, ◌<◌}
use mathlib.Core.Path.{◌≡◌, refl, sym, subst, ◌∙◌}
use mathlib.Core.Bool.{Bool, true, false, and-eq-true_iff}
use mathlib.Core.List.{List, [], ◌∷◌, ◌++◌, map, flat_map, Memᴰ}
use Rattle.std.proofs.lemmas.Option.{none-some, same_Some}
use mathlib.Core.Logic.{⊎_elim}
use lib.Dec.{eqb, ltb}
use lib.ListN.{length}
use borrow.Author.Tests.{ltb-true}
use Rattle.octets.specs.LittleEndian.{Octets}
use Rattle.octets.proofs.OctetLists.{octets_nil, octets_cons}
use Rattle.counters.specs.declared.Metric.{Metric}
use Rattle.layout.specs.declared.address.Address.{Address}
use Rattle.layout.specs.declared.row.Row.{Row}
use Rattle.layout.specs.Address.{same}
use Rattle.table.specs.Table.{own, number, row_for}
use Rattle.layout.proofs.HeadAndRows.{head_fits}
use Rattle.table.proofs.Heads.{fresh_none, fresh_octets}
use Rattle.table.proofs.Lookup.{row_fits_its_octets}
use Rattle.element.specs.Octets.{write_element}
use Rattle.element.specs.Lists.{has_duplicate}
use Rattle.element.specs.Entries.{All}
use Rattle.element.proofs.ReadBack.{octets_written}
use Rattle.rules.specs.Decision.{Decision}
use Rattle.rules.specs.Exit.{Frame, Lent, Effect}
use Rattle.rules.specs.Calls.{OwnCall, asks, announces, requests_as_root, breaks, Call, decision, OwnOperandsFit, OperandsFit}
use Rattle.rules.proofs.Branches.{cond_cases}
use Rattle.rules.proofs.Alls.{all_append, all_map}
use Rattle.rules.proofs.Sending.{FrameFits}
use Rattle.rules.proofs.CallsKeep.{Kept, call_kept}
use Rattle.theorems.specs.Mesh.{Point, Sent, Mesh, fresh_table, start, box_of, with_box, Action, delivers, makes, finds_next_hop, walks, Event, own_call_fits, action_fits, event_fits, delivery_of, call_of, sent_by, after_call, calls, happen, run, throughout, met}
use Rattle.theorems.specs.Premise.{beside, known_in, held, held_by_all, numbers_for, is_within, all_within}
use Rattle.theorems.proofs.Boxes.{box_own, box_listed, box_alike}
use Rattle.theorems.proofs.Invariant.{Near, row_of, row_at, RowAt, row_at_lem, Inv, all_at, inv_after}
use Rattle.theorems.proofs.Walks.{no_duplicate}
use Rattle.theorems.proofs.Calls.{FromLog, call_fine}

-- ---- octets, and senders of six octets

abbrev SentFits : Sent → Type 0
SentFits s = (s.sender.0 < 256 ^ 6) × Octets s.octets

-- The table that a point lends consists of octets.
abbrev BoxFits : Lent → Type 0
BoxFits l = Octets l.table

record Sane (m : Mesh) : Type 0 where
  boxes : All BoxFits m.boxes
  log : All SentFits m.log

box_fits : (m : Mesh) → Sane m → (a : Address) (l : Lent) → box_of a m.boxes ≡ Some l → BoxFits l
box_fits m sane a l here = all_at BoxFits m.boxes sane.boxes (box_listed a m.boxes l here)

address_fits : (a : Address) (t : List ℕ) → Octets t → own t ≡ a → a.0 < 256 ^ 6
address_fits a t o is = rw (← is) (head_fits t o).own

with_box_fits : (a : Address) (k : Lent) → BoxFits k → (boxes : List Lent) → All BoxFits boxes → All BoxFits (with_box a k boxes)
unfolding with_box All
with_box_fits a k o [] h = tt
with_box_fits a k o (l ∷ boxes) h =
    cond_cases (All BoxFits) (same (own l.table) a) (λ _. (o, h.1)) (λ _. (h.0, with_box_fits a k o boxes h.1))

module _ (m : Mesh) (sane : Sane m) (a : Address) (l : Lent) (here : box_of a m.boxes ≡ Some l) where
  sane_after : (e : Effect) → Kept l.table e → Sane (after_call m a (Ok e))
  unfolding after_call sent_by
  sane_after e k =
      let fits = address_fits a l.table (box_fits m sane a l here) (box_own a m.boxes l here) in
      record {
        boxes = with_box_fits a e.lent k.leaves.whole.octets m.boxes sane.boxes;
        log = all_append SentFits m.log (sent_by a e.frames) sane.log
            (all_map SentFits FrameFits (λ (f : Frame). record { sender = a; octets = write_element f.element })
            (λ f g. (fits, octets_written f.element g.element.count)) e.frames k.frames);
      }

-- ---- the numbers of a row are among those held

module _ {A : Type 0} (p : A → Bool) where
  all_parts : (l l' : List A) → all p (l ++ l') ≡ true → (all p l ≡ true) × (all p l' ≡ true)
  all_parts [] l' e = (refl, e)
  all_parts (x ∷ l) l' e =
      let here = (and-eq-true_iff (p x) (all p (l ++ l'))).0 e in
      let rest = all_parts l l' here.1 in
      (rw (here.0, rest.0), rest.1)

  all_of_flat : {B : Type 0} (f : B → List A) (l : List B) → all p (flat_map f l) ≡ true → {x : B} → Memᴰ x l → all p (f x) ≡ true
  unfolding flat_map
  all_of_flat f [] e k = absurd (mathlib.Core.List.Memᴰ.not-nil k)
  all_of_flat f (y ∷ l) e k =
      let parts = all_parts (f y) (flat_map f l) e in
      ⊎_elim (λ q. rw q parts.0) (λ j. all_of_flat f l parts.1 j) (mathlib.Core.List.Memᴰ.cases_cons k)

module _ (d : Address) (base : ℕ) (m : Mesh) (sane : Sane m) (within : all_within d base m ≡ true) where
  row_within : (a : Address) (l : Lent) → box_of a m.boxes ≡ Some l → (r : Row) → row_for l.table d ≡ Some r → eqb r.known 1 ≡ true
      → is_within base r.number ≡ true
  unfolding all_within numbers_for held_by_all held
  row_within a l here r found known =
      let in_boxes = (all_parts (is_within base) (held_by_all d m.boxes) _ within).0 in
      let numbers = all_of_flat (is_within base) (λ (x : Lent). held d x.table) m.boxes in_boxes (box_listed a m.boxes l here) in
      let row = (all_parts (is_within base) (beside d (own l.table) (number l.table)) (known_in (row_for l.table d)) numbers).1 in
      ((and-eq-true_iff (is_within base r.number) true).0 (rw (found, known) at row)).0

  near_at : (a : Address) → Near base (row_at d m.boxes a)
  unfolding is_within
  near_at a r found known =
      let k : RowAt d m.boxes a r = row_at_lem d m.boxes a r found in
      let o : Octets k.box.table = box_fits m sane a k.box k.at in
      record {
        fits = (row_fits_its_octets k.box.table d r k.found o).number;
        near = ltb-true _ _ (row_within a k.box k.at r k.found known);
      }

-- ---- the beginning

module _ (d : Address) (base : ℕ) where
  fresh_at : (points : List Point) (a : Address) → row_at d (start points).boxes a ≡ None
  unfolding start box_of row_at
  fresh_at [] a = refl
  fresh_at (p ∷ points) a =
      cond_cases (λ (o : Option Lent). row_of d o ≡ None) (same (own (fresh_table p)) a)
      (λ _. fresh_none (32 + 32 * p.rows) p.address p.number d) (λ _. fresh_at points a)

  begins : (points : List Point) → Inv d base (start points)
  unfolding start
  begins points =
      record {
        rooted = λ a r found valid. absurd (none-some r (sym (fresh_at points a) ∙ found));
        backed = λ s k. absurd (mathlib.Core.List.Memᴰ.not-nil k);
        absent = fresh_at points d;
      }

sane_start : (points : List Point) → Sane (start points)
unfolding start All
sane_start points = record { boxes = each points; log = tt }
  where
    each : (points : List Point) → All BoxFits (start points).boxes
    each [] = tt
    each (p ∷ points) = (fresh_octets (32 + 32 * p.rows) p.address p.number, each points)

-- ---- one event

logged : (log : List Sent) (k : ℕ) (s : Sent) → slice_get log k ≡ Some s → Memᴰ s log
logged [] k s e = absurd (none-some s e)
logged (x ∷ log) zero s e = mathlib.Core.List.Memᴰ.head (same_Some s x (sym e))
logged (x ∷ log) (suc k) s e = mathlib.Core.List.Memᴰ.tail (logged log k s e)

-- The operands of the call fit, and an element that it receives is an element of the log.
record Made (log : List Sent) (call : Call) : Type 0 where
  fit : OperandsFit call
  from : FromLog log call

delivery_made : (log : List Sent) → All SentFits log → (place c : ℕ) (link : Metric) (o : Option Sent) → slice_get log place ≡ o → (call : Call)
    → delivery_of c link o ≡ Some call → Made log call
delivery_made log fits place c link None at call is = absurd (none-some call is)
delivery_made log fits place c link (Some s) at call is =
    let k : Memᴰ s log = logged log place s at in
    subst (Made log) (same_Some _ call is) (record { fit = all_at SentFits log fits k; from = (s, k, refl, refl) })

items_octets : (items : List ℕ) → all (λ octet. ltb octet 256) items ≡ true → Octets items
items_octets [] h = octets_nil
items_octets (x ∷ items) h =
    let both = (and-eq-true_iff (ltb x 256) (all (λ octet. ltb octet 256) items)).0 h in
    octets_cons x items (ltb-true x 256 both.0) (items_octets items both.1)

own_operands : (call : OwnCall) → own_call_fits call ≡ true → OwnOperandsFit call
unfolding own_call_fits
own_operands (asks lifetime items) h =
    let both = (and-eq-true_iff (ltb lifetime (256 ^ 4)) (all (λ octet. ltb octet 256) items)).0 h in
    (ltb-true lifetime (256 ^ 4) both.0, items_octets items both.1)
own_operands (announces flags lifetime) h = ltb-true lifetime (256 ^ 4) h
own_operands (requests_as_root flags lifetime) h = ltb-true lifetime (256 ^ 4) h
own_operands (breaks c neighbour) h = tt

made : (log : List Sent) → All SentFits log → (action : Action) → action_fits action ≡ true → (call : Call) → call_of log action ≡ Some call
    → Made log call
unfolding call_of action_fits
made log fits (delivers place c link) fit call is = delivery_made log fits place c link (slice_get log place) refl call is
made log fits (makes own-call) fit call is =
    subst (Made log) (same_Some _ call is) (record { fit = own_operands own-call fit; from = tt })
made log fits (finds_next_hop c d) fit call is = absurd (none-some call is)
made log fits (walks c from d) fit call is = absurd (none-some call is)

-- Returns the lengths of all tables.
abbrev pub table_lengths : List Lent → List ℕ
table_lengths boxes = map (λ (l : Lent). length l.table) boxes

module _ (d : Address) (base : ℕ) (small : base < 2 ^ 32) (lengths : List ℕ) where
  -- The invariant holds, and the tables have these lengths.
  pub record Good (m : Mesh) : Type 0 where
    sane : Sane m
    inv : Inv d base m
    pub long : table_lengths m.boxes ≡ lengths

  -- A call of the point a, which lends l, keeps the mesh good.
  module _ (m : Mesh) (good : Good m) (within : all_within d base m ≡ true) (a : Address) (l : Lent) (here : box_of a m.boxes ≡ Some l) where
    octets : Octets l.table
    octets = box_fits m good.sane a l here

    near : Near base (row_for l.table d)
    unfolding row_at
    near = rw here at (near_at d base m good.sane within a)

    call_good : (room : ℕ) (call : Call) → Made m.log call
        → (o : Decision Effect) → decision l room call ≡ o → all_within d base (after_call m a o) ≡ true → Good (after_call m a o)
    unfolding after_call
    call_good room call k (Err n) is within' = good
    call_good room call k (Ok e) is within' =
        let kept : Kept l.table e = call_kept l octets room call k.fit e is in
        let sane' : Sane (after_call m a (Ok e)) = sane_after m good.sane a l here e kept in
        record {
          sane = sane';
          long = box_alike (λ (x : Lent). length x.table) a e.lent m.boxes l here kept.leaves.length ∙ good.long;
          inv = inv_after d base m good.inv a l e here (call_fine d base small m.log l octets near room call k.fit k.from e is)
              (near_at d base (after_call m a (Ok e)) sane' within' a);
        }

  happens : (m : Mesh) (e : Event) → event_fits e ≡ true → Good m → all_within d base m ≡ true → all_within d base (happen decision m e) ≡ true
      → Good (happen decision m e)
  unfolding happen
  happens m e fit good within within' = go (box_of e.point m.boxes) refl (call_of m.log e.action) refl within'
    where
      go : (o : Option Lent) → box_of e.point m.boxes ≡ o → (k : Option Call) → call_of m.log e.action ≡ k
          → all_within d base (calls decision m e o k) ≡ true → Good (calls decision m e o k)
      go None here k is within' = good
      go (Some l) here None is within' = good
      go (Some l) here (Some call) is within' =
          call_good m good within e.point l here e.room call (made m.log good.sane.log e.action fit call is)
          (decision l e.room call) refl within'

  -- ---- a list of events

  at_first : (m : Mesh) (events : List Event) → throughout (happen decision) (all_within d base) m events ≡ true → all_within d base m ≡ true
  unfolding throughout
  at_first m [] h = h
  at_first m (e ∷ events) h = ((and-eq-true_iff (all_within d base m) (throughout (happen decision) (all_within d base) (happen decision m e) events)).0 h).0

  runs : (m : Mesh) (events : List Event) → all event_fits events ≡ true → Good m
      → throughout (happen decision) (all_within d base) m events ≡ true → Good (run (happen decision) m events)
  unfolding run throughout
  runs m [] fit good within = good
  runs m (e ∷ events) fit good within =
      let both = (and-eq-true_iff (all_within d base m) (throughout (happen decision) (all_within d base) (happen decision m e) events)).0 within in
      let fits = (and-eq-true_iff (event_fits e) (all event_fits events)).0 fit in
      runs (happen decision m e) events fits.1
      (happens m e fits.0 good both.0 (at_first (happen decision m e) events both.1)) both.1

-- A list of calls as demand 3 asks for it.
module _ (d : Address) (base : ℕ) (small : base < 2 ^ 32) (points : List Point) (events : List Event) (fit : all event_fits events ≡ true)
    (within : throughout (happen decision) (all_within d base) (start points) events ≡ true) where
  pub ends_good : Good d base small (table_lengths (start points).boxes) (run (happen decision) (start points) events)
  ends_good =
      runs d base small _ (start points) events fit (record { sane = sane_start points; inv = begins d base points; long = refl }) within

  pub loop_free : (hops : ℕ) (a : Address) → has_duplicate (met (run (happen decision) (start points) events) d hops a) ≡ false
  loop_free = no_duplicate d base (run (happen decision) (start points) events) ends_good.inv
