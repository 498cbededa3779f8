-- Laws of steps 1 and 2 of receiving a RANN, RREQ or RREP. They say what becomes of the row of each destination, and that the
-- octets stay a table.
use Rattle.std.specs.Prelude.{Option, None, Some}
use Prim.Native.Nat.{ℕ, ◌+◌, ◌-◌, ◌^◌, ◌<◌, ◌≤◌}
use mathlib.Core.Path.{◌≡◌, refl, sym, ap, subst, ◌∙◌}
use mathlib.Core.Bool.{Bool, true, false, ◌&&◌, ◌||◌}
use mathlib.Core.List.{List}
use mathlib.Core.Logic.{⊎_elim}
use lib.Dec.{eqb, ltb}
use native.Mathlib.Omega.{arith}
use borrow.Author.Tests.{eqb-true}
use Rattle.octets.proofs.Tests.{clash}
use Rattle.octets.proofs.Laws.{FitFields}
use Rattle.layout.specs.declared.address.Address.{Address}
use Rattle.layout.specs.declared.row.Head.{Head}
use Rattle.layout.specs.declared.row.Row.{Row}
use Rattle.layout.specs.Address.{same}
use Rattle.layout.specs.Row.{is_unnumbered, is_other, is_held, active, renewed, numbered}
use Rattle.table.specs.Table.{own, row_for, new_rows, free_rows, store}
use Rattle.layout.proofs.HeadAndRows.{FitRow, fit_row}
use Rattle.layout.proofs.HeldRows.{Held, held_says, held_is}
use Rattle.table.proofs.Lookup.{row_destination, row_is_held, row_fits_its_octets, store_found, store_other, store_free, store_legal, store_length, store_head, store_octets}
use Rattle.table.proofs.WellFormed.{same_itself, differ, not_same, equal_or_not}
use Rattle.element.specs.declared.PathInfo.{PathInfo}
use Rattle.rules.specs.declared.Arrival.{Arrival}
use Rattle.rules.specs.Learn.{metric_here, row_or_new, expiry_of, subject_row, transmitter_row, takes_link, subject_learnt, transmitter_learnt, learnt}
use Rattle.rules.specs.Receive.{is_stale, rows_needed}
use Rattle.rules.proofs.Branches.{cond_cases}
use Rattle.rules.proofs.Tables.{Whole, Keeps}

-- States that the fields of a path fit their octets.
pub record PathFits (p : PathInfo) : Type 0 where
  pub flags : p.flags < 256 ^ 1
  pub hops : p.hops.0 < 256 ^ 1
  pub ttl : p.ttl < 256 ^ 1
  pub subject : p.subject.0 < 256 ^ 6
  pub number : p.number.0 < 256 ^ 4
  pub lifetime : p.lifetime < 256 ^ 4
  pub metric : p.metric.0 < 256 ^ 4

-- What the checks guarantee for the path of an accepted element.
pub record Heard (t : List ℕ) (a : Arrival) (p : PathInfo) : Type 0 where
  pub whole : Whole t
  pub fits : PathFits p
  pub transmitter_fits : a.transmitter.0 < 256 ^ 6
  pub clock : a.clock ≤ 2 ^ 48 - 1
  pub link : 1 ≤ a.link.0
  pub transmitter : is_other (own t) a.transmitter ≡ true
  pub subject : is_other (own t) p.subject ≡ true
  pub hops : p.hops.0 < 255
  pub metric : (metric_here a p).0 ≤ 2 ^ 32 - 2
  pub fresh : is_stale t a p ≡ false
  pub room : rows_needed t a p ≤ free_rows t

-- ---- the row that a step changes

-- What holds for the row r of the destination d, held or new, before a step changes it.
record Basis (d : Address) (r : Row) : Type 0 where
  destination : r.destination ≡ d
  zero : r.zero ≡ 0
  known : r.known ≤ 1
  unnumbered : eqb r.known 1 ≡ false → r.number.0 ≡ 0
  expiry : r.expiry ≤ 2 ^ 48 + 2 ^ 32
  fits : FitRow r

unnumbered_number : (r : Row) → (eqb r.known 1 || is_unnumbered r) ≡ true → eqb r.known 1 ≡ false → r.number.0 ≡ 0
unfolding is_unnumbered
unnumbered_number r e k = by (eqb r.number.0 0) refl (rw k at e)
  where
    by : (b : Bool) → eqb r.number.0 0 ≡ b → (b && eqb r.hops.0 1 && same r.next r.destination) ≡ true → r.number.0 ≡ 0
    by true q e = eqb-true r.number.0 0 q
    by false q e = clash cc

basis : (t : List ℕ) → Whole t → (d : Address) → d.0 < 256 ^ 6 → (o : Option Row) → row_for t d ≡ o → Basis d (row_or_new d o)
unfolding FitFields
basis t w d small None e =
    record {
      destination = refl;
      zero = refl;
      known = omega arith;
      unnumbered = λ _. refl;
      expiry = omega arith;
      fits = fit_row (row_or_new d None) (omega arith);
    }
basis t w d small (Some r) e =
    let h : Held (own t) r = held_says (own t) r (row_is_held t d r e w.legal) in
    record {
      destination = row_destination t d r e;
      zero = h.zero;
      known = h.known;
      unnumbered = unnumbered_number r h.numbered;
      expiry = h.expiry;
      fits = row_fits_its_octets t d r e w.octets;
    }

expiry_small : (c lifetime : ℕ) (r : Row) → c ≤ 2 ^ 48 - 1 → lifetime < 256 ^ 4 → r.expiry ≤ 2 ^ 48 + 2 ^ 32 → expiry_of c lifetime r ≤ 2 ^ 48 + 2 ^ 32
unfolding expiry_of
expiry_small c lifetime r hc hl hr =
    cond_cases (λ x. x ≤ 2 ^ 48 + 2 ^ 32) (active c r && ltb (c + lifetime) r.expiry) (λ _. hr) (λ _. omega arith)

module _ (t : List ℕ) (a : Arrival) (p : PathInfo) (h : Heard t a p) where
  -- Step 1.
  module _ (r : Row) (b : Basis p.subject r) where
    subject_fits : FitRow (subject_row a p r)
    unfolding subject_row renewed numbered
    subject_fits =
        let e = expiry_small a.clock p.lifetime r h.clock h.fits.lifetime b.expiry in
        record {
          status = omega arith;
          known = omega arith;
          hops = omega (arith, h.hops);
          zero = b.fits.zero;
          destination = b.fits.destination;
          next = h.transmitter_fits;
          number = h.fits.number;
          metric = omega (arith, h.metric);
          expiry = omega arith;
        }

    subject_held : Held (own t) (subject_row a p r)
    unfolding subject_row renewed numbered
    subject_held =
        record {
          status = (omega arith, omega arith);
          known = omega arith;
          zero = b.zero;
          destination = ap (is_other (own t)) b.destination ∙ h.subject;
          next = h.transmitter;
          metric = omega (arith, h.link);
          expiry = expiry_small a.clock p.lifetime r h.clock h.fits.lifetime b.expiry;
          numbered = refl;
        }

  -- Step 2.
  module _ (r : Row) (b : Basis a.transmitter r) where
    transmitter_row_fits : FitRow (transmitter_row a p.lifetime r)
    unfolding transmitter_row renewed
    transmitter_row_fits =
        let e = expiry_small a.clock p.lifetime r h.clock h.fits.lifetime b.expiry in
        record {
          status = omega arith;
          known = b.fits.known;
          hops = omega arith;
          zero = b.fits.zero;
          destination = b.fits.destination;
          next = h.transmitter_fits;
          number = b.fits.number;
          metric = omega (arith, h.metric);
          expiry = omega arith;
        }

    transmitter_held : Held (own t) (transmitter_row a p.lifetime r)
    unfolding transmitter_row renewed is_unnumbered
    transmitter_held =
        record {
          status = (omega arith, omega arith);
          known = b.known;
          zero = b.zero;
          destination = ap (is_other (own t)) b.destination ∙ h.transmitter;
          next = h.transmitter;
          metric = h.link;
          expiry = expiry_small a.clock p.lifetime r h.clock h.fits.lifetime b.expiry;
          numbered = by (eqb r.known 1) refl;
        }
      where
        by : (k : Bool) → eqb r.known 1 ≡ k → (k || (eqb r.number.0 0 && true && same a.transmitter r.destination)) ≡ true
        by true e = refl
        by false e = rw (b.unnumbered e, b.destination, same_itself a.transmitter)

-- ---- a row that is stored

-- States that u is the table t with the row r stored for d.
record Stored (t : List ℕ) (d : Address) (r : Row) (u : List ℕ) : Type 0 where
  keeps : Keeps t u
  here : row_for u d ≡ Some r
  others : (e : Address) → (d ≡ e → ⊥) → row_for u e ≡ row_for t e
  free : free_rows u + new_rows (row_for t d) ≡ free_rows t

stored : (t : List ℕ) → Whole t → (d : Address) (r : Row) → r.destination ≡ d → Held (own t) r → FitRow r
    → new_rows (row_for t d) ≤ free_rows t → Stored t d r (store t r)
stored t w d r is held fit room =
    let ok : is_held (own t) r ≡ true = held_is (own t) r held in
    let there : new_rows (row_for t r.destination) ≤ free_rows t = rw is room in
    record {
      keeps = record {
        whole = record {
          octets = store_octets t r w.octets;
          long = rw store_length w.long;
          legal = store_legal t r w.legal ok fit there;
        };
        head = store_head t r;
        length = store_length t r;
      };
      here = ap (row_for (store t r)) (sym is) ∙ store_found t r w.legal ok fit there;
      others = λ e n. store_other t r w.legal ok fit there e (differ r.destination e (λ q. n (sym is ∙ q)));
      free = ap (λ (x : Address). free_rows (store t r) + new_rows (row_for t x)) (sym is) ∙ store_free t r w.legal ok fit there;
    }

keeps_trans : {t u v : List ℕ} → Keeps t u → Keeps u v → Keeps t v
keeps_trans k l = record { whole = l.whole; head = l.head ∙ k.head; length = l.length ∙ k.length }

-- ---- the row of a destination d before (o) and after (o')

-- Step 2: if d is the transmitter, its row may be made or changed. Otherwise the row of d stays as it is.
pub data Renewal (d : Address) (a : Arrival) (lifetime : ℕ) (o o' : Option Row) : Type 0 where
  renewal : a.transmitter ≡ d → takes_link a o ≡ true → o' ≡ Some (transmitter_row a lifetime (row_or_new d o)) → Renewal d a lifetime o o'
  left : o' ≡ o → Renewal d a lifetime o o'

-- Steps 1 and 2: step 1 makes or changes the subject's row, and only step 2 can make or change another row.
pub data Learning (d : Address) (a : Arrival) (p : PathInfo) (o o' : Option Row) : Type 0 where
  subject : p.subject ≡ d → o' ≡ Some (subject_row a p (row_or_new d o)) → Learning d a p o o'
  other : (p.subject ≡ d → ⊥) → Renewal d a p.lifetime o o' → Learning d a p o o'

module _ (t : List ℕ) (a : Arrival) (p : PathInfo) (h : Heard t a p) where
  -- The table after step 1.
  u : List ℕ
  u = subject_learnt a p t

  first : Stored t p.subject (subject_row a p (row_or_new p.subject (row_for t p.subject))) u
  unfolding u subject_learnt rows_needed subject_row renewed numbered
  first =
      let r : Row = row_or_new p.subject (row_for t p.subject) in
      let b : Basis p.subject r = basis t h.whole p.subject h.fits.subject (row_for t p.subject) refl in
      stored t h.whole p.subject (subject_row a p r) b.destination (subject_held t a p h r b) (subject_fits t a p h r b) (omega (arith, h.room))

  module _ (apart : a.transmitter ≡ p.subject → ⊥) where
    row_before : row_for u a.transmitter ≡ row_for t a.transmitter
    row_before = first.others a.transmitter (λ q. apart (sym q))

    room_left : new_rows (row_for u a.transmitter) ≤ free_rows u
    unfolding rows_needed
    room_left =
        let room = rw (differ a.transmitter p.subject apart) at h.room in
        rw row_before (omega (arith, room, first.free))

    second : Stored u a.transmitter (transmitter_row a p.lifetime (row_or_new a.transmitter (row_for u a.transmitter)))
        (store u (transmitter_row a p.lifetime (row_or_new a.transmitter (row_for u a.transmitter))))
    unfolding transmitter_row renewed
    second =
        let r : Row = row_or_new a.transmitter (row_for u a.transmitter) in
        let w : Whole u = first.keeps.whole in
        let b : Basis a.transmitter r = basis u w a.transmitter h.transmitter_fits (row_for u a.transmitter) refl in
        let same_own : own t ≡ own u = ap (λ (g : Head). g.own) (sym first.keeps.head) in
        stored u w a.transmitter (transmitter_row a p.lifetime r) b.destination
        (subst (λ (x : Address). Held x (transmitter_row a p.lifetime r)) same_own (transmitter_held t a p h r b))
        (transmitter_row_fits t a p h r b) room_left

    -- The table after both steps.
    both_keep : Keeps t (transmitter_learnt a p.lifetime u)
    unfolding transmitter_learnt
    both_keep = cond_cases (Keeps t) (takes_link a (row_for u a.transmitter)) (λ _. keeps_trans first.keeps second.keeps) (λ _. first.keeps)

    renewal_there : Renewal a.transmitter a p.lifetime (row_for u a.transmitter) (row_for (transmitter_learnt a p.lifetime u) a.transmitter)
    unfolding transmitter_learnt
    renewal_there =
        cond_cases (λ (v : List ℕ). Renewal a.transmitter a p.lifetime (row_for u a.transmitter) (row_for v a.transmitter))
        (takes_link a (row_for u a.transmitter)) (λ takes. renewal refl takes second.here) (λ _. left refl)

    renewal_elsewhere : (d : Address) → (a.transmitter ≡ d → ⊥) → row_for (transmitter_learnt a p.lifetime u) d ≡ row_for u d
    unfolding transmitter_learnt
    renewal_elsewhere d n =
        cond_cases (λ (v : List ℕ). row_for v d ≡ row_for u d) (takes_link a (row_for u a.transmitter)) (λ _. second.others d n) (λ _. refl)

    renewal_at : (d : Address) → Renewal d a p.lifetime (row_for u d) (row_for (transmitter_learnt a p.lifetime u) d)
    renewal_at d =
        ⊎_elim
        (λ e. subst (λ (x : Address). Renewal x a p.lifetime (row_for u x) (row_for (transmitter_learnt a p.lifetime u) x)) e renewal_there)
        (λ n. left (renewal_elsewhere d n)) (equal_or_not a.transmitter d)

  first_at : (d : Address) → p.subject ≡ d → row_for u d ≡ Some (subject_row a p (row_or_new d (row_for t d)))
  first_at d e = subst (λ (x : Address). row_for u x ≡ Some (subject_row a p (row_or_new x (row_for t x)))) e first.here

  alone : (d : Address) → Learning d a p (row_for t d) (row_for u d)
  alone d = ⊎_elim (λ e. subject e (first_at d e)) (λ n. other n (left (first.others d n))) (equal_or_not p.subject d)

  with_transmitter : (a.transmitter ≡ p.subject → ⊥) → (d : Address)
      → Learning d a p (row_for t d) (row_for (transmitter_learnt a p.lifetime u) d)
  with_transmitter apart d =
      ⊎_elim (λ e. subject e (renewal_elsewhere apart d (λ k. apart (k ∙ sym e)) ∙ first_at d e))
      (λ n. other n (rw (← first.others d n) (renewal_at apart d)))
      (equal_or_not p.subject d)

  -- What becomes of the row of each destination.
  pub learning : (d : Address) → Learning d a p (row_for t d) (row_for (learnt a p t) d)
  unfolding learnt u
  learning d =
      cond_cases (λ (v : List ℕ). Learning d a p (row_for t d) (row_for v d)) (same a.transmitter p.subject) (λ _. alone d)
      (λ apart. with_transmitter (not_same a.transmitter p.subject apart) d)

  -- The octets stay a table.
  pub learnt_keeps : Keeps t (learnt a p t)
  unfolding learnt u
  learnt_keeps =
      cond_cases (Keeps t) (same a.transmitter p.subject) (λ _. first.keeps)
      (λ apart. both_keep (not_same a.transmitter p.subject apart))
