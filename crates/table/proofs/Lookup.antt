-- Laws of the row of a destination and of the free rows, after a row is stored or freed.
use Rattle.std.specs.Prelude.{Some, None, Option}
use Prim.Native.Nat.{ℕ, suc, ◌+◌, ◌<◌, ◌≤◌}
use mathlib.Core.Path.{◌≡◌, refl, sym, ap, ◌∙◌}
use mathlib.Core.Bool.{Bool, true, false, ◌&&◌, not, cond, and-false, or-true}
use mathlib.Core.List.{List}
use lib.ListN.{length}
use lib.Dec.{eqb}
use native.Mathlib.Decide.{ℕ_discrete}
use native.Mathlib.Omega.{arith}
use borrow.Author.Tests.{eqb-true}
use Rattle.octets.proofs.Tests.{clash}
use Rattle.layout.specs.declared.address.Address.{Address}
use Rattle.layout.specs.declared.row.Head.{Head}
use Rattle.layout.specs.declared.row.Row.{Row}
use Rattle.octets.specs.LittleEndian.{Octets}
use Rattle.layout.specs.Address.{same}
use Rattle.layout.specs.Row.{free_row, is_free, status_ok, is_held, row_ok}
use Rattle.octets.proofs.Laws.{FitFields}
use Rattle.layout.specs.Layout.{rows, all_zero, place, head_at, row_at, put_row, row_octets}
use Rattle.table.specs.Table.{own, vacant, holds, find_row, first_free, row_in, row_for, new_rows, free_rows, place_for, put_at, store, freed}
use Rattle.layout.proofs.HeadAndRows.{FitRow, fit_row, length_row, row_same, row_other, head_stays, row_octets_lem, row_fits}
use Rattle.table.proofs.Places.{first_below, first_true, first_not, first_only, first_nowhere, first_cong, count_cong, count_drop, count_nowhere}
use Rattle.table.proofs.WellFormed.{Legal, true_not_false, false_of, same_is, same_itself, held_row}

-- ---- the place that a search found

module _ (t : List ℕ) (d : Address) where
  pub found_here : (i : ℕ) → find_row t d ≡ Some i → (i < rows t) × (holds t d i ≡ true)
  unfolding find_row
  found_here i e = (first_below (holds t d) (rows t) i e, first_true (holds t d) (rows t) i e)

  pub found_nowhere : find_row t d ≡ None → (k : ℕ) → k < rows t → holds t d k ≡ false
  unfolding find_row
  found_nowhere e k l = first_not (holds t d) (rows t) k e l

  -- In a table, no row other than the one found is held for d.
  pub found_only : Legal t → (i : ℕ) → find_row t d ≡ Some i → (k : ℕ) → k < rows t → (k ≡ i → ⊥) → holds t d k ≡ false
  found_only legal i e k l n =
      let here = found_here i e in
      false_of (holds t d k) (λ h. n (legal.once d k i l here.0 h here.1))

-- A legal row is held if its status is not 0.
pub held_of : (a : Address) (r : Row) → row_ok a r ≡ true → eqb r.status 0 ≡ false → is_held a r ≡ true
unfolding row_ok is_free all_zero
held_of a r ok e = rw e at ok

module _ (t : List ℕ) (d : Address) (r : Row) (e : row_for t d ≡ Some r) where
  -- The place where the row of d stands.
  row_place : (i : ℕ) × (find_row t d ≡ Some i) × (row_at t i ≡ r)
  unfolding row_for
  row_place = by (find_row t d) refl
    where
      by : (f : Option ℕ) → find_row t d ≡ f → (i : ℕ) × (find_row t d ≡ Some i) × (row_at t i ≡ r)
      by (Some i) q = (i, q, cc)
      by None q = clash cc

  -- The row has destination d. In a table it is a legal held row.
  pub row_destination : r.destination ≡ d
  row_destination =
      let p = row_place in
      ap (λ (q : Row). q.destination) (sym p.2) ∙ (held_row t d p.0 (found_here t d p.0 p.1).1).1

  pub row_is_held : Legal t → is_held (own t) r ≡ true
  unfolding vacant
  row_is_held legal =
      let p = row_place in
      let found = found_here t d p.0 p.1 in
      rw (← p.2) (held_of (own t) (row_at t p.0) (legal.row p.0 found.0) (held_row t d p.0 found.1).0)

  pub row_fits_its_octets : Octets t → FitRow r
  row_fits_its_octets o = let p = row_place in rw (← p.2) (row_fits t p.0 o)

-- ---- a row that is put

module _ (t : List ℕ) (i : ℕ) (r : Row) (within : place i + row_octets ≤ length t) (fit : FitRow r) where
  -- Whether row i is held or free after the put.
  here : (d : Address) → holds (put_row t i r) d i ≡ (same r.destination d && not (eqb r.status 0))
  unfolding holds vacant
  here d = rw (row_same t i r within fit)

  vacant_here : vacant (put_row t i r) i ≡ eqb r.status 0
  unfolding vacant
  vacant_here = rw (row_same t i r within fit)

  -- The other rows are held or free as before.
  there : (d : Address) (k : ℕ) → (k ≡ i → ⊥) → holds (put_row t i r) d k ≡ holds t d k
  unfolding holds vacant
  there d k n = rw (row_other t i k r n)

  vacant_there : (k : ℕ) → (k ≡ i → ⊥) → vacant (put_row t i r) k ≡ vacant t k
  unfolding vacant
  vacant_there k n = rw (row_other t i k r n)

  -- If only row i is held for d after the put, the row of d is r.
  put_found : (d : Address) → holds (put_row t i r) d i ≡ true → ((k : ℕ) → k < rows t → (k ≡ i → ⊥) → holds t d k ≡ false)
      → row_for (put_row t i r) d ≡ Some r
  unfolding row_for find_row
  put_found d h none-else =
      rw (
        first_only (holds (put_row t i r) d) (rows (put_row t i r)) i (rw length_row (omega arith)) h
            (λ k l n. there d k n ∙ none-else k (rw length_row at l) n),
        row_same t i r within fit,
      )

  -- If no row is held for d after the put, d has no row.
  put_gone : (d : Address) → holds (put_row t i r) d i ≡ false → ((k : ℕ) → k < rows t → (k ≡ i → ⊥) → holds t d k ≡ false)
      → row_for (put_row t i r) d ≡ None
  unfolding row_for find_row
  put_gone d h none-else =
      rw (first_nowhere (holds (put_row t i r) d) (rows (put_row t i r)) (λ k l. by k (rw length_row at l) (ℕ_discrete k i)))
    where
      by : (k : ℕ) → k < rows t → Dec (k ≡ i) → holds (put_row t i r) d k ≡ false
      by k l (yes q) = rw q h
      by k l (no q) = there d k q ∙ none-else k l q

  -- If row i is held for d neither before nor after the put, d keeps its row.
  module _ (d : Address) (before : holds t d i ≡ false) (now : holds (put_row t i r) d i ≡ false) where
    agree : (k : ℕ) → holds (put_row t i r) d k ≡ holds t d k
    agree k = at (ℕ_discrete k i)
      where
        at : Dec (k ≡ i) → holds (put_row t i r) d k ≡ holds t d k
        at (yes q) = rw q (now ∙ sym before)
        at (no q) = there d k q

    same_place : find_row (put_row t i r) d ≡ find_row t d
    unfolding find_row
    same_place = rw length_row (first_cong (holds (put_row t i r) d) (holds t d) (rows t) (λ k l. agree k))

    put_other : row_for (put_row t i r) d ≡ row_for t d
    unfolding row_for
    put_other = ap (row_in (put_row t i r)) same_place ∙ by (find_row t d) refl
      where
        by : (f : Option ℕ) → find_row t d ≡ f → row_in (put_row t i r) f ≡ row_in t f
        by None e = refl
        by (Some k) e = rw (row_other t i k r (λ q. true_not_false (rw q at (found_here t d k e).1) before))

  -- How many rows are free after the put.
  put_level : vacant t i ≡ eqb r.status 0 → free_rows (put_row t i r) ≡ free_rows t
  unfolding free_rows
  put_level e = rw length_row (count_cong (vacant (put_row t i r)) (vacant t) (rows t) (λ k l. by k (ℕ_discrete k i)))
    where
      by : (k : ℕ) → Dec (k ≡ i) → vacant (put_row t i r) k ≡ vacant t k
      by k (yes q) = rw q (vacant_here ∙ sym e)
      by k (no q) = vacant_there k q

  put_takes : vacant t i ≡ true → eqb r.status 0 ≡ false → free_rows t ≡ suc (free_rows (put_row t i r))
  unfolding free_rows
  put_takes v h =
      rw length_row
      (count_drop (vacant t) (vacant (put_row t i r)) (rows t) i (omega arith) (λ k l n. sym (vacant_there k n)) v (vacant_here ∙ h))

  put_gives : vacant t i ≡ false → eqb r.status 0 ≡ true → free_rows (put_row t i r) ≡ suc (free_rows t)
  unfolding free_rows
  put_gives v h =
      rw length_row
      (count_drop (vacant (put_row t i r)) (vacant t) (rows t) i (omega arith) (λ k l n. vacant_there k n) (vacant_here ∙ h) v)

  -- A table stays a table if the row is legal and, where it is held, no other row is held for its destination.
  module _ (legal : Legal t) (ok : row_ok (own t) r ≡ true)
      (single : eqb r.status 0 ≡ false → (k : ℕ) → k < rows t → (k ≡ i → ⊥) → holds t r.destination k ≡ false) where
    row_kept : (k : ℕ) → k < rows t → row_ok (own t) (row_at (put_row t i r) k) ≡ true
    row_kept k l = by (ℕ_discrete k i)
      where
        by : Dec (k ≡ i) → row_ok (own t) (row_at (put_row t i r) k) ≡ true
        by (yes q) = rw (q, row_same t i r within fit) ok
        by (no q) = rw (row_other t i k r q) (legal.row k l)

    not_both : (d : Address) (k : ℕ) → k < rows t → (k ≡ i → ⊥) → holds (put_row t i r) d i ≡ true → holds (put_row t i r) d k ≡ true → ⊥
    not_both d k l n hi hk =
        let row = held_row (put_row t i r) d i hi in
        let is_d = ap (λ (q : Row). q.destination) (sym (row_same t i r within fit)) ∙ row.1 in
        true_not_false (sym (there d k n) ∙ hk) (rw is_d at (single (sym vacant_here ∙ row.0) k l n))

    once_kept : (d : Address) (j k : ℕ) → j < rows t → k < rows t → holds (put_row t i r) d j ≡ true → holds (put_row t i r) d k ≡ true → j ≡ k
    once_kept d j k lj lk hj hk = by (ℕ_discrete j i) (ℕ_discrete k i)
      where
        by : Dec (j ≡ i) → Dec (k ≡ i) → j ≡ k
        by (yes p) (yes q) = p ∙ sym q
        by (yes p) (no q) = absurd (not_both d k lk q (rw p at hj) hk)
        by (no p) (yes q) = absurd (not_both d j lj p (rw q at hk) hj)
        by (no p) (no q) = legal.once d j k lj lk (sym (there d j p) ∙ hj) (sym (there d k q) ∙ hk)

    put_legal : Legal (put_row t i r)
    put_legal =
        record {
          head = rw head_stays legal.head;
          row = λ k l. ap (λ (h : Head). row_ok h.own (row_at (put_row t i r) k)) (head_stays t i r) ∙ row_kept k (rw length_row at l);
          once = λ d j k lj lk. once_kept d j k (rw length_row at lj) (rw length_row at lk);
        }

-- ---- where a stored row goes

-- The place for a row with destination d, and what stood there.
record Spot (t : List ℕ) (d : Address) : Type 0 where
  at : ℕ
  is : place_for t d ≡ Some at
  below : at < rows t
  -- No other row is held for d, and the row at this place is held for no other destination.
  single : (k : ℕ) → k < rows t → (k ≡ at → ⊥) → holds t d k ≡ false
  apart : (e : Address) → same d e ≡ false → holds t e at ≡ false
  -- A new row is needed exactly if the place is free.
  fresh : new_rows (row_for t d) ≡ cond (vacant t at) 1 0

-- A free row is held for no destination.
vacant_holds : (t : List ℕ) (d : Address) (i : ℕ) → vacant t i ≡ true → holds t d i ≡ false
unfolding holds
vacant_holds t d i v = rw v (and-false (same (row_at t i).destination d))

-- A held row is held for only one destination.
held_for_one : (t : List ℕ) (d e : Address) (i : ℕ) → holds t d i ≡ true → same d e ≡ false → holds t e i ≡ false
held_for_one t d e i hd n =
    false_of (holds t e i)
    (λ he. let q = sym (held_row t d i hd).1 ∙ (held_row t e i he).1 in true_not_false (rw q (same_itself e)) n)

module _ (t : List ℕ) where
  free_here : (i : ℕ) → first_free t ≡ Some i → (i < rows t) × (vacant t i ≡ true)
  unfolding first_free
  free_here i e = (first_below (vacant t) (rows t) i e, first_true (vacant t) (rows t) i e)

  none_free : first_free t ≡ None → free_rows t ≡ 0
  unfolding first_free free_rows
  none_free e = count_nowhere (vacant t) (rows t) (λ k l. first_not (vacant t) (rows t) k e l)

spot : (t : List ℕ) (d : Address) → Legal t → new_rows (row_for t d) ≤ free_rows t → Spot t d
unfolding place_for row_for
spot t d legal room = go (find_row t d) refl (first_free t) refl
  where
    go : (f : Option ℕ) → find_row t d ≡ f → (g : Option ℕ) → first_free t ≡ g → Spot t d
    go (Some i) fe g ge =
        let found = found_here t d i fe in
        record {
          at = i;
          is = rw fe;
          below = found.0;
          single = found_only t d legal i fe;
          apart = λ e n. held_for_one t d e i found.1 n;
          fresh = rw (fe, (held_row t d i found.1).0);
        }
    go None fe (Some i) ge =
        let free = free_here t i ge in
        record {
          at = i;
          is = rw (fe, ge);
          below = free.0;
          single = λ k l n. found_nowhere t d fe k l;
          apart = λ e n. vacant_holds t e i free.1;
          fresh = rw (fe, free.1);
        }
    go None fe None ge = let None = none_free t ge in let one : 1 ≤ free_rows t = rw fe at room in absurd (omega arith)

-- ---- a row that is stored

pub held_status : (a : Address) (r : Row) → is_held a r ≡ true → eqb r.status 0 ≡ false
unfolding is_held status_ok
held_status a r e = false_of (eqb r.status 0) (λ z. true_not_false (rw (eqb-true r.status 0 z) at e) refl)

held_ok : (a : Address) (r : Row) → is_held a r ≡ true → row_ok a r ≡ true
unfolding row_ok
held_ok a r e = rw e (or-true (is_free r))

-- Laws of storing a legal held row if there is room for it: its destination has a row, or some row is free, wherever it lies.
module _ (t : List ℕ) (r : Row) (legal : Legal t) (held : is_held (own t) r ≡ true) (fit : FitRow r)
    (room : new_rows (row_for t r.destination) ≤ free_rows t) where
  place_of : Spot t r.destination
  place_of = spot t r.destination legal room

  inside : place place_of.at + row_octets ≤ length t
  inside = let l = place_of.below in omega arith

  stored : store t r ≡ put_row t place_of.at r
  unfolding store
  stored = rw place_of.is

  status : eqb r.status 0 ≡ false
  status = held_status (own t) r held

  -- The row of the destination is the stored row.
  pub store_found : row_for (store t r) r.destination ≡ Some r
  store_found =
      rw stored
      (put_found t place_of.at r inside fit r.destination
      (here t place_of.at r inside fit r.destination ∙ rw (status, same_itself r.destination))
      place_of.single)

  -- The rows of all other destinations stay.
  pub store_other : (d : Address) → same r.destination d ≡ false → row_for (store t r) d ≡ row_for t d
  store_other d n =
      rw stored
      (put_other t place_of.at r inside fit d (place_of.apart d n)
      (here t place_of.at r inside fit d ∙ rw n))

  -- A new row takes one of the free rows.
  pub store_free : free_rows (store t r) + new_rows (row_for t r.destination) ≡ free_rows t
  store_free = rw stored (by (vacant t place_of.at) refl)
    where
      by : (b : Bool) → vacant t place_of.at ≡ b → free_rows (put_row t place_of.at r) + new_rows (row_for t r.destination) ≡ free_rows t
      by true v = let e = rw v at place_of.fresh in let f = put_takes t place_of.at r inside fit v status in omega arith
      by false v = let e = rw v at place_of.fresh in let f = put_level t place_of.at r inside fit (v ∙ sym status) in omega arith

  -- A table stays a table.
  pub store_legal : Legal (store t r)
  store_legal =
      rw stored (put_legal t place_of.at r inside fit legal (held_ok (own t) r held) (λ _. place_of.single))

-- ---- what putting a row at any place leaves alone

module _ (t : List ℕ) (r : Row) where
  put_length : (f : Option ℕ) → length (put_at t r f) ≡ length t
  put_length (Some i) = length_row t i r
  put_length None = refl

  put_head : (f : Option ℕ) → head_at (put_at t r f) ≡ head_at t
  put_head (Some i) = head_stays t i r
  put_head None = refl

  put_octets : Octets t → (f : Option ℕ) → Octets (put_at t r f)
  put_octets o (Some i) = row_octets_lem t i r o
  put_octets o None = o

  pub store_length : length (store t r) ≡ length t
  unfolding store
  store_length = put_length (place_for t r.destination)

  pub store_head : head_at (store t r) ≡ head_at t
  unfolding store
  store_head = put_head (place_for t r.destination)

  pub store_octets : Octets t → Octets (store t r)
  unfolding store
  store_octets o = put_octets o (place_for t r.destination)

module _ (t : List ℕ) (d : Address) where
  pub freed_length : length (freed t d) ≡ length t
  unfolding freed
  freed_length = put_length t free_row (find_row t d)

  pub freed_octets : Octets t → Octets (freed t d)
  unfolding freed
  freed_octets o = put_octets t free_row o (find_row t d)

-- ---- two rows that are stored, one after the other

differs : (a b : Address) → same a b ≡ false → same b a ≡ false
differs a b n = false_of (same b a) (λ e. true_not_false (rw (same_is b a e) (same_itself a)) n)

-- Laws of storing two rows with different destinations, if no more new rows are needed than are free, wherever the free rows lie.
-- Both rows are found afterwards, and the rows of all other destinations stay.
module _ (t : List ℕ) (r s : Row) (legal : Legal t) (held : is_held (own t) r ≡ true) (fit : FitRow r)
    (held' : is_held (own t) s ≡ true) (fit' : FitRow s) (differ : same r.destination s.destination ≡ false)
    (room : new_rows (row_for t r.destination) + new_rows (row_for t s.destination) ≤ free_rows t) where
  room_first : new_rows (row_for t r.destination) ≤ free_rows t
  room_first = omega arith

  legal' : Legal (store t r)
  legal' = store_legal t r legal held fit room_first

  room_second : new_rows (row_for (store t r) s.destination) ≤ free_rows (store t r)
  room_second =
      let f = store_free t r legal held fit room_first in
      rw (store_other t r legal held fit room_first s.destination differ) (omega arith)

  held_second : is_held (own (store t r)) s ≡ true
  held_second = ap (λ (h : Head). is_held h.own s) (store_head t r) ∙ held'

  pub first_found : row_for (store (store t r) s) r.destination ≡ Some r
  first_found =
      store_other (store t r) s legal' held_second fit' room_second r.destination (differs r.destination s.destination differ)
      ∙ store_found t r legal held fit room_first

  pub second_found : row_for (store (store t r) s) s.destination ≡ Some s
  second_found = store_found (store t r) s legal' held_second fit' room_second

  pub others_stay : (d : Address) → same r.destination d ≡ false → same s.destination d ≡ false
      → row_for (store (store t r) s) d ≡ row_for t d
  others_stay d n n' =
      store_other (store t r) s legal' held_second fit' room_second d n' ∙ store_other t r legal held fit room_first d n

  pub both_legal : Legal (store (store t r) s)
  both_legal = store_legal (store t r) s legal' held_second fit' room_second

-- ---- a row that is freed

free_fits : FitRow free_row
unfolding FitFields
free_fits = fit_row free_row (omega arith)

free_ok : (a : Address) → row_ok a free_row ≡ true
unfolding row_ok is_free all_zero
free_ok a = refl

-- After row i is freed, it is held for no destination.
free_holds : (t : List ℕ) (i : ℕ) → place i + row_octets ≤ length t → (d : Address) → holds (put_row t i free_row) d i ≡ false
free_holds t i within d = here t i free_row within free_fits d ∙ and-false (same free_row.destination d)

module _ (t : List ℕ) (d : Address) (legal : Legal t) where
  -- The destination has no row.
  pub freed_gone : row_for (freed t d) d ≡ None
  unfolding freed row_for
  freed_gone = by (find_row t d) refl
    where
      by : (f : Option ℕ) → find_row t d ≡ f → row_for (put_at t free_row f) d ≡ None
      by None e = rw e
      by (Some i) e =
          let found = found_here t d i e in
          put_gone t i free_row (omega arith) free_fits d (free_holds t i (omega arith) d) (found_only t d legal i e)

  -- The rows of all other destinations stay.
  pub freed_other : (e : Address) → same d e ≡ false → row_for (freed t d) e ≡ row_for t e
  unfolding freed
  freed_other e n = by (find_row t d) refl
    where
      by : (f : Option ℕ) → find_row t d ≡ f → row_for (put_at t free_row f) e ≡ row_for t e
      by None q = refl
      by (Some i) q =
          let found = found_here t d i q in
          put_other t i free_row (omega arith) free_fits e (held_for_one t d e i found.1 n) (free_holds t i (omega arith) e)

  -- One more row is free if the destination had a row.
  pub freed_free : free_rows (freed t d) + new_rows (row_for t d) ≡ suc (free_rows t)
  unfolding freed row_for
  freed_free = by (find_row t d) refl
    where
      by : (f : Option ℕ) → find_row t d ≡ f → free_rows (put_at t free_row f) + new_rows (row_in t f) ≡ suc (free_rows t)
      by None e = omega arith
      by (Some i) e =
          let found = found_here t d i e in
          let more = put_gives t i free_row (omega arith) free_fits (held_row t d i found.1).0 refl in
          omega arith

  pub freed_legal : Legal (freed t d)
  unfolding freed
  freed_legal = by (find_row t d) refl
    where
      by : (f : Option ℕ) → find_row t d ≡ f → Legal (put_at t free_row f)
      by None e = legal
      by (Some i) e =
          let found = found_here t d i e in
          put_legal t i free_row (omega arith) free_fits legal (free_ok (own t)) (λ held. absurd (true_not_false refl held))
