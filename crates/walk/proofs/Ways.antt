-- Laws of where rows lead, and of the way along them.
use Rattle.rules.specs.Decision.{Decision}
use Rattle.refusals.specs.declared.Refusal.{Refusal}
use Rattle.refusals.specs.declared.Refusal.TheVariants.{TableLength}
use Rattle.std.proofs.lemmas.Option.{none-some}
use Rattle.std.specs.Prelude.{Err, Ok, Option, None, Some, ⊤}
use Rattle.std.specs.List.{find, range_with_len}
use Prim.Native.Nat.{ℕ, zero, suc, ◌+◌, ◌-◌, ◌*◌, ◌<◌, ◌≤◌}
use mathlib.Core.Path.{◌≡◌, refl, sym, ap, ◌∙◌}
use mathlib.Core.Bool.{Bool, true, false, not, ◌||◌, cond, or-true}
use mathlib.Core.List.{List, [], ◌∷◌}
use lib.ListN.{length}
use native.Mathlib.Omega.{arith}
use native.Mathlib.Nat.{sub-zero}
use native.Mathlib.Numerals.{add-one}
use borrow.Author.Tests.{not-true, not-false}
use Rattle.octets.proofs.Tests.{first_holds}
use Rattle.layout.specs.declared.address.Address.{Address}
use Rattle.layout.specs.declared.row.Row.{Row}
use Rattle.layout.specs.Address.{address_of, same}
use Rattle.table.specs.Table.{row_for, active_next}
use Rattle.table.proofs.Places.{first_below}
use Rattle.element.specs.Entries.{each}
use Rattle.element.specs.Lists.{contains, has_duplicate}
use Rattle.rules.specs.Walk.{Walked, arrived, stopped, too_long, table_at, tables_in, side_by_side, points, row_of_point, leads_to, go_on, follow, walking, walk}
use Rattle.rules.proofs.Rulings.{passed_check}
use Rattle.calls.specs.Answers.{answer_to}
use Rattle.calls.proofs.Checks.{as_decision, decided_as, answer_passed}
use Rattle.walk.specs.OnTheWay.{stopped_at, resumed}
use Rattle.walk.specs.Pieces.{point_at}
use Rattle.walk.proofs.Tables.{divided}

-- ---- the row of a point, by the place of the point

-- The row that the point at place i holds for d, and none if there is no place.
abbrev row_at_place : List ℕ → ℕ → Address → Option ℕ → Option Row
row_at_place s long d None = None
row_at_place s long d (Some i) = row_for (table_at s long i) d

module _ (s : List ℕ) (long : ℕ) (a d : Address) where
  row_each : (i n : ℕ) → row_of_point (each (table_at s long) i n) a d
      ≡ row_at_place s long d (find (λ k. same (point_at s long k) a) (range_with_len i n))
  unfolding row_of_point each
  row_each i zero = refl
  row_each i (suc n) =
      ap (cond (same (point_at s long i) a) (row_for (table_at s long i) d)) (ap (λ (k : ℕ). row_of_point (each (table_at s long) k n) a d) (sym (add-one i)) ∙ row_each (i + 1) n)
      ∙ by (same (point_at s long i) a) (find (λ k. same (point_at s long k) a) (range_with_len (i + 1) n))
    where
      by : (b : Bool) (f : Option ℕ) → cond b (row_for (table_at s long i) d) (row_at_place s long d f) ≡ row_at_place s long d (cond b (Some i) f)
      by true f = refl
      by false f = refl

  module _ (n : ℕ) (some_piece : 1 ≤ n) (whole : n * long ≡ length s) (f : Option ℕ) (fe : f ≡ find (λ k. same (point_at s long k) a) (range_with_len 0 n)) where
    row_is : row_of_point (tables_in s n) a d ≡ row_at_place s long d f
    row_is = ap (λ (m : ℕ). row_of_point (each (table_at s m) 0 n) a d) (sym (divided s long n some_piece whole)) ∙ row_each 0 n ∙ ap (row_at_place s long d) (sym fe)

    pub row_absent : f ≡ None → (c : ℕ) → None ≡ active_next c (row_of_point (tables_in s n) a d)
    unfolding active_next
    row_absent e c = rw (row_is, e)

    pub row_found : (i : ℕ) → f ≡ Some i → (t : List ℕ) → t ≡ table_at s long i → (c : ℕ) (r : Option Address) → r ≡ active_next c (row_for t d)
        → r ≡ active_next c (row_of_point (tables_in s n) a d)
    row_found i e t te c r re = rw (row_is, e, ← te) re

pub place_below : (p : ℕ → Bool) (n : ℕ) (f : Option ℕ) → f ≡ find p (range_with_len 0 n) → (i : ℕ) → f ≡ Some i → i < n
place_below p n f fe i e = first_below p n i (sym fe ∙ e)

-- An address from which an active row leads on is the address of a point.
either_row : (c : ℕ) (next : Address) (b x : Bool) (o p : Option Row) → (Some next ≡ active_next c p → x ≡ true)
    → Some next ≡ active_next c (cond b o p) → (b || x) ≡ true
either_row c next true x o p further e = refl
either_row c next false x o p further e = further e

row_of_a_point : (tables : List (List ℕ)) (a d next : Address) (c : ℕ) → Some next ≡ active_next c (row_of_point tables a d) → contains (points tables) a ≡ true
unfolding row_of_point contains active_next
row_of_a_point [] a d next c e = absurd (none-some next (sym e))
row_of_a_point (t ∷ tables) a d next c e =
    either_row c next (same (address_of t) a) (contains (points tables) a) (row_for t d) (row_of_point tables a d) (row_of_a_point tables a d next c) e

-- ---- the way; g is how the whole walk ends

pub way_start : (tables : List (List ℕ)) (c : ℕ) (d : Address) (n : ℕ) (a : Address) → contains (points tables) a ≡ true
    → resumed tables c d (n - 0) a 0 0 ≡ follow tables c d n a 0
unfolding resumed
way_start tables c d n a e = rw (sub-zero n, e, or-true (same a d))

-- The walk stands at a after i of at most n hops.
module _ (tables : List (List ℕ)) (c : ℕ) (d : Address) (n i hops before : ℕ) (a : Address) (g : Walked)
    (so_far : resumed tables c d (n - i) a hops before ≡ g) where
  module _ (b : Bool) (be : b ≡ same a d) where
    pub way_arrived : b ≡ true → arrived hops ≡ g
    unfolding resumed follow
    way_arrived e = by (n - i) so_far
      where
        by : (m : ℕ) → resumed tables c d m a hops before ≡ g → arrived hops ≡ g
        by zero h = rw (← h, ← be, e)
        by (suc m) h = rw (← h, ← be, e)

    module _ (e : b ≡ false) (some_left : i < n) (r : Option Address) (re : r ≡ active_next c (row_of_point tables a d)) where
      pub way_stopped : r ≡ None → (w : Walked) → w ≡ stopped_at tables a hops before → w ≡ g
      unfolding resumed follow leads_to stopped_at
      way_stopped none w we = we ∙ by (n - i) refl so_far
        where
          nowhere : None ≡ active_next c (row_of_point tables a d)
          nowhere = sym none ∙ re

          by : (m : ℕ) → n - i ≡ m → resumed tables c d m a hops before ≡ g → stopped_at tables a hops before ≡ g
          by zero l h = absurd (omega arith)
          by (suc m) l h = rw (← h, ← be, e, ← nowhere)

      pub way_more : (next : Address) → r ≡ Some next → resumed tables c d (n - (i + 1)) next (hops + 1) hops ≡ g
      unfolding resumed follow leads_to
      way_more next led_on = by (n - i) refl so_far
        where
          on : Some next ≡ active_next c (row_of_point tables a d)
          on = sym led_on ∙ re

          led : (m : ℕ) (b : Bool) → go_on tables c d (cond b (Some next) None) hops (follow tables c d m) ≡ cond b (follow tables c d m next (hops + 1)) (stopped hops)
          led m true = refl
          led m false = refl

          by : (m : ℕ) → n - i ≡ m → resumed tables c d m a hops before ≡ g → resumed tables c d (n - (i + 1)) next (hops + 1) hops ≡ g
          by zero l h = absurd (omega arith)
          by (suc m) l h =
              let left : n - (i + 1) ≡ m = omega arith in
              rw (← h, ← be, e, row_of_a_point tables a d next c on, ← on, left)
              (sym (led m (same next d || contains (points tables) next)))

  -- After as many hops as points, no more rows are read, so the clock plays no part.
  pub way_ended : n ≤ i → (w : Walked) → w ≡ resumed tables 0 d 0 a hops before → w ≡ g
  unfolding resumed follow
  way_ended none w we = we ∙ by (n - i) (omega arith) so_far
    where
      by : (m : ℕ) → m ≡ 0 → resumed tables c d m a hops before ≡ g → resumed tables 0 d 0 a hops before ≡ g
      by zero l h = h
      by (suc m) l h = absurd (omega arith)

-- ---- where the walk stops

module _ (tables : List (List ℕ)) (a : Address) (hops before : ℕ) (b : Bool) (be : b ≡ contains (points tables) a) where
  pub stopped_on : b ≡ true → stopped hops ≡ stopped_at tables a hops before
  unfolding stopped_at
  stopped_on e = rw (← be, e)

  pub stopped_off : b ≡ false → stopped before ≡ stopped_at tables a hops before
  unfolding stopped_at
  stopped_off e = rw (← be, e)

  module _ (d : Address) (v : Bool) (ve : v ≡ same a d) (apart : v ≡ false) where
    pub ended_off : not b ≡ true → stopped before ≡ resumed tables 0 d 0 a hops before
    unfolding resumed
    ended_off e = rw (← ve, apart, ← be, not-true b e)

    pub ended_on : not b ≡ false → too_long hops ≡ resumed tables 0 d 0 a hops before
    unfolding resumed follow
    ended_on e = rw (← ve, apart, ← be, not-false b e)

pub ended_there : (tables : List (List ℕ)) (a d : Address) (hops before : ℕ) (v : Bool) → v ≡ same a d → v ≡ true
    → arrived hops ≡ resumed tables 0 d 0 a hops before
ended_there tables a d hops before v ve e = way_arrived tables 0 d 0 0 hops before a (resumed tables 0 d 0 a hops before) refl v ve e

-- ---- the call, from the answers of its checks

-- The octets are no pieces (refusal 1).
pub walk_unsplit : (s : List ℕ) (count c : ℕ) (start d : Address) → side_by_side s count ≡ false → (r : Refusal) → r ≡ TableLength → Err r ≡ walk s count c start d
unfolding walk
walk_unsplit s count c start d apart r re = rw (re, apart)

pub start_accepted : (s : List ℕ) (count c : ℕ) (start d : Address) (a : Decision ⊤) → a ≡ answer_to (walking s count c start d).checks → (done : ⊤) → a ≡ Ok done
    → contains (points (tables_in s count)) start ≡ true
start_accepted s count c start d a ae done ok =
    first_holds (contains (points (tables_in s count)) start) (has_duplicate (points (tables_in s count)))
    (passed_check 10 (walking s count c start d).checks (answer_passed (walking s count c start d).checks done (sym ok ∙ ae)))

-- The pieces are those of the octets s₀.
module _ (s s₀ : List ℕ) (se : s ≡ s₀) (count count₀ : ℕ) (ce : count ≡ count₀) (c : ℕ) (start d : Address) (a : Decision ⊤)
    (ae : a ≡ answer_to (walking s count c start d).checks) where
  abbrev way : Walked
  way = follow (tables_in s count) c d count start 0

  decided : walk s₀ count₀ c start d ≡ as_decision way a
  unfolding walk
  decided = rw (← se, ← ce) (decided_as (walking s count c start d) a ae)

  pub walk_refused : (n : Refusal) → a ≡ Err n → Err n ≡ walk s₀ count₀ c start d
  walk_refused n e = sym (decided ∙ ap (as_decision way) e)

  pub walk_accepted : (done : ⊤) → a ≡ Ok done → (w : Walked) → w ≡ way → Ok w ≡ walk s₀ count₀ c start d
  walk_accepted done ok w we = ap Ok we ∙ sym (decided ∙ ap (as_decision way) ok)
