-- Laws of a table after each row that passes a test is changed. Each destination keeps its row, changed or as it was.
use Rattle.std.specs.Prelude.{Some, None, Option, option_map}
use Prim.Native.Nat.{ℕ, zero, suc, ◌+◌, ◌<◌, ◌≤◌}
use mathlib.Core.Path.{◌≡◌, refl, sym, ap, ◌∙◌}
use mathlib.Core.Bool.{Bool, true, false, cond, or-true}
use mathlib.Core.List.{List}
use mathlib.Core.Logic.{⊎_elim}
use lib.ListN.{length}
use lib.Dec.{eqb}
use native.Mathlib.Nat.{eq-or-lt_of_le, le_of_suc-le-suc, not-suc-le-zero}
use native.Mathlib.Numerals.{add-one}
use native.Mathlib.Omega.{arith}
use Rattle.octets.proofs.Tests.{clash}
use Rattle.octets.specs.LittleEndian.{Octets}
use Rattle.layout.specs.declared.address.Address.{Address}
use Rattle.layout.specs.declared.row.Head.{Head}
use Rattle.layout.specs.declared.row.Row.{Row}
use Rattle.layout.specs.Row.{is_free, is_held, row_ok}
use Rattle.layout.specs.Layout.{rows, place, head_at, row_at, put_row}
use Rattle.table.specs.Table.{own, vacant, holds, find_row, row_in, row_for, free_rows, change_at, change_below, change_where}
use Rattle.layout.proofs.HeadAndRows.{FitRow, length_row, row_same, row_other, head_stays, row_octets_lem, row_fits}
use Rattle.table.proofs.Places.{first_cong, count_cong}
use Rattle.table.proofs.WellFormed.{Legal}
use Rattle.table.proofs.Lookup.{found_here, held_of}

-- States that a change applies only to held rows, and leaves each of them held for its destination, in values that its octets
-- can hold.
pub record KeepsRows (p : Row → Bool) (f : Row → Row) : Type 0 where
  pub was_held : (r : Row) → p r ≡ true → eqb r.status 0 ≡ false
  pub held : (r : Row) → p r ≡ true → eqb (f r).status 0 ≡ false
  pub destination : (r : Row) → p r ≡ true → (f r).destination ≡ r.destination
  pub fits : (r : Row) → p r ≡ true → FitRow r → FitRow (f r)

-- Returns any row after the change.
abbrev pub changed : (Row → Bool) → (Row → Row) → Row → Row
changed p f r = cond (p r) (f r) r

either : (P : List ℕ → Type 0) (b : Bool) {t u : List ℕ} → P t → P u → P (cond b t u)
either P true p q = p
either P false p q = q

-- A property holds after the change if it holds for a row that stays and for a row that is changed.
pub by_test : (p : Row → Bool) (f : Row → Row) (P : Row → Type 0) (r : Row) → P r → (p r ≡ true → P (f r)) → P (changed p f r)
by_test p f P r stays changes = by (p r) changes
  where
    by : (b : Bool) → (b ≡ true → P (f r)) → P (cond b (f r) r)
    by true h = h refl
    by false h = stays

module _ (p : Row → Bool) (f : Row → Row) where
  below_length : (n : ℕ) (t : List ℕ) → length (change_below p f n t) ≡ length t
  unfolding change_below
  below_length zero t = refl
  below_length (suc n) t =
      let u : List ℕ = change_below p f n t in
      either (λ v. length v ≡ length t) (p (row_at u n)) (length_row u n _ ∙ below_length n t) (below_length n t)

  below_head : (n : ℕ) (t : List ℕ) → head_at (change_below p f n t) ≡ head_at t
  unfolding change_below
  below_head zero t = refl
  below_head (suc n) t =
      let u : List ℕ = change_below p f n t in
      either (λ v. head_at v ≡ head_at t) (p (row_at u n)) (head_stays u n _ ∙ below_head n t) (below_head n t)

  below_octets : (n : ℕ) (t : List ℕ) → Octets t → Octets (change_below p f n t)
  unfolding change_below
  below_octets zero t o = o
  below_octets (suc n) t o =
      let u : List ℕ = change_below p f n t in
      either Octets (p (row_at u n)) (row_octets_lem u n _ (below_octets n t o)) (below_octets n t o)

  -- The rows from n on stay.
  pub below_other : (n k : ℕ) (t : List ℕ) → n ≤ k → row_at (change_below p f n t) k ≡ row_at t k
  unfolding change_below
  below_other zero k t l = refl
  below_other (suc n) k t l =
      let u : List ℕ = change_below p f n t in
      either (λ v. row_at v k ≡ row_at t k) (p (row_at u n))
      (row_other u n k _ (λ q. omega arith) ∙ below_other n k t (omega arith))
      (below_other n k t (omega arith))

  -- Row i stays or is changed, in the form that code needs when it goes from row to row.
  module _ (t : List ℕ) (i : ℕ) (r : Row) (re : r ≡ row_at t i) where
    pub row_stays : p r ≡ false → t ≡ change_at p f i t
    row_stays e = rw (← re, e)

    pub row_changed : p r ≡ true → (s : Row) → s ≡ f r → (u : List ℕ) → u ≡ put_row t i s → u ≡ change_at p f i t
    row_changed e s se u ue = rw (← re, e, ← se) ue

  -- For a loop: the rows below i are done, then row i is done, and in the end all rows are done.
  pub below_start : (t : List ℕ) → t ≡ change_below p f 0 t
  unfolding change_below
  below_start t = refl

  module _ (t u : List ℕ) (i : ℕ) (so_far : u ≡ change_below p f i t) where
    pub below_more : (v : List ℕ) → v ≡ change_at p f i u → v ≡ change_below p f (i + 1) t
    unfolding change_below
    below_more v ve = ve ∙ ap (change_at p f i) so_far ∙ ap (λ (k : ℕ). change_below p f k t) (sym (add-one i))

    pub below_ended : (n : ℕ) → i ≤ n → n ≤ i → u ≡ change_below p f n t
    below_ended n l h = let e : i ≡ n = omega arith in so_far ∙ ap (λ (k : ℕ). change_below p f k t) e

    pub below_all : i ≡ rows t → u ≡ change_where p f t
    unfolding change_where
    below_all e = so_far ∙ ap (λ (k : ℕ). change_below p f k t) e

  -- Row i of u, after a step of the code that answers o for it.
  module _ (u : List ℕ) (i : ℕ) (r : Row) (re : r ≡ row_at u i) (o : Option Row) (oe : o ≡ cond (p r) (Some (f r)) None) where
    pub step_writes : (s : Row) → o ≡ Some s → (v : List ℕ) → v ≡ put_row u i s → v ≡ change_at p f i u
    step_writes s at_s v ve = ve ∙ by (p r) (sym oe ∙ at_s) ∙ ap (λ (q : Row). cond (p q) (put_row u i (f q)) u) re
      where
        by : (b : Bool) → cond b (Some (f r)) None ≡ Some s → put_row u i s ≡ cond b (put_row u i (f r)) u
        by true e = let same : f r ≡ s = cc in ap (put_row u i) (sym same)
        by false e = clash cc

    pub step_leaves : o ≡ None → (v : List ℕ) → v ≡ u → v ≡ change_at p f i u
    step_leaves no_row v ve = ve ∙ by (p r) (sym oe ∙ no_row) ∙ ap (λ (q : Row). cond (p q) (put_row u i (f q)) u) re
      where
        by : (b : Bool) → cond b (Some (f r)) None ≡ None → u ≡ cond b (put_row u i (f r)) u
        by true e = clash cc
        by false e = refl

  pub change_length : (t : List ℕ) → length (change_where p f t) ≡ length t
  unfolding change_where
  change_length t = below_length (rows t) t

  pub change_head : (t : List ℕ) → head_at (change_where p f t) ≡ head_at t
  unfolding change_where
  change_head t = below_head (rows t) t

  pub change_octets : (t : List ℕ) → Octets t → Octets (change_where p f t)
  unfolding change_where
  change_octets t o = below_octets (rows t) t o

  module _ (keeps : KeepsRows p f) where
    change_here : (u : List ℕ) (n : ℕ) → Octets u → place n + 32 ≤ length u → row_at (change_at p f n u) n ≡ changed p f (row_at u n)
    change_here u n o l = by (p (row_at u n)) refl
      where
        by : (b : Bool) → p (row_at u n) ≡ b → row_at (cond b (put_row u n (f (row_at u n))) u) n ≡ cond b (f (row_at u n)) (row_at u n)
        by true e = row_same u n (f (row_at u n)) l (keeps.fits (row_at u n) e (row_fits u n o))
        by false e = refl

    -- The rows below n are changed.
    below_same : (n k : ℕ) (t : List ℕ) → Octets t → place n ≤ length t → k < n → row_at (change_below p f n t) k ≡ changed p f (row_at t k)
    unfolding change_below
    below_same zero k t o l h = absurd (not-suc-le-zero h)
    below_same (suc n) k t o l h =
        let u : List ℕ = change_below p f n t in
        ⊎_elim
        (λ q. rw q
        (change_here u n (below_octets n t o) (rw below_length (omega arith)) ∙ ap (changed p f) (below_other n n t (omega arith))))
        (λ g. either (λ v. row_at v k ≡ changed p f (row_at t k)) (p (row_at u n))
        (row_other u n k _ (λ q. omega arith) ∙ below_same n k t o (omega arith) g)
        (below_same n k t o (omega arith) g))
        (eq-or-lt_of_le (le_of_suc-le-suc h))

    changed_status : (r : Row) → eqb (changed p f r).status 0 ≡ eqb r.status 0
    changed_status r =
        by_test p f (λ q. eqb q.status 0 ≡ eqb r.status 0) r refl (λ e. keeps.held r e ∙ sym (keeps.was_held r e))

    changed_destination : (r : Row) → (changed p f r).destination ≡ r.destination
    changed_destination r = by_test p f (λ q. q.destination ≡ r.destination) r refl (keeps.destination r)

    changed_ok : (a : Address) (r : Row) → (p r ≡ true → is_held a r ≡ true → is_held a (f r) ≡ true) → row_ok a r ≡ true → row_ok a (changed p f r) ≡ true
    unfolding row_ok
    changed_ok a r h ok =
        by_test p f (λ q. row_ok a q ≡ true) r ok (λ e. rw (h e (held_of a r ok (keeps.was_held r e))) (or-true (is_free (f r))))

    module _ (t : List ℕ) (octets : Octets t) where
      change_at_lem : (k : ℕ) → k < rows t → row_at (change_where p f t) k ≡ changed p f (row_at t k)
      unfolding change_where
      change_at_lem k l = below_same (rows t) k t octets (omega arith) l

      change_vacant : (k : ℕ) → k < rows t → vacant (change_where p f t) k ≡ vacant t k
      unfolding vacant
      change_vacant k l = rw (change_at_lem k l) (changed_status (row_at t k))

      change_holds : (d : Address) (k : ℕ) → k < rows t → holds (change_where p f t) d k ≡ holds t d k
      unfolding holds
      change_holds d k l = rw (change_vacant k l, change_at_lem k l, changed_destination (row_at t k))

      change_place : (d : Address) → find_row (change_where p f t) d ≡ find_row t d
      unfolding find_row
      change_place d = rw change_length (first_cong (holds (change_where p f t) d) (holds t d) (rows t) (change_holds d))

      -- Each destination keeps its row, changed or as it was.
      pub change_found : (d : Address) → row_for (change_where p f t) d ≡ option_map (changed p f) (row_for t d)
      unfolding row_for
      change_found d = ap (row_in (change_where p f t)) (change_place d) ∙ by (find_row t d) refl
        where
          by : (g : Option ℕ) → find_row t d ≡ g → row_in (change_where p f t) g ≡ option_map (changed p f) (row_in t g)
          by None e = refl
          by (Some k) e = ap Some (change_at_lem k (found_here t d k e).0)

      -- As many rows are free as before.
      pub change_free : free_rows (change_where p f t) ≡ free_rows t
      unfolding free_rows
      change_free = rw change_length (count_cong (vacant (change_where p f t)) (vacant t) (rows t) change_vacant)

      -- A table stays a table if each changed row stays a legal held row.
      pub change_legal : Legal t → ((r : Row) → p r ≡ true → is_held (own t) r ≡ true → is_held (own t) (f r) ≡ true) → Legal (change_where p f t)
      change_legal legal ok =
          record {
            head = rw change_head legal.head;
            row = λ k l. ap (λ (h : Head). row_ok h.own (row_at (change_where p f t) k)) (change_head t) ∙ row_ok_lem k (rw change_length at l);
            once = λ d j k lj lk hj hk.
                let lj' = rw change_length at lj in
                let lk' = rw change_length at lk in
                legal.once d j k lj' lk' (sym (change_holds d j lj') ∙ hj) (sym (change_holds d k lk') ∙ hk);
          }
        where
          row_ok_lem : (k : ℕ) → k < rows t → row_ok (own t) (row_at (change_where p f t) k) ≡ true
          row_ok_lem k l = rw (change_at_lem k l) (changed_ok (own t) (row_at t k) (ok (row_at t k)) (legal.row k l))
