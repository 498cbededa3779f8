-- Within the premise of demand 3 no walk answers 42. A walk of as many hops as there are points, none met twice, would meet one
-- point more than there are.
use Rattle.rules.specs.Lists.{all}
use Rattle.std.specs.Prelude.{Ok, Option, None, Some, is_some}
use Prim.Native.Nat.{ℕ, zero, suc, ◌+◌, ◌*◌, ◌/◌, ◌^◌, ◌<◌, ◌≤◌}
use mathlib.Core.Path.{◌≡◌, refl, sym, ap, ap₂, subst, ◌∙◌}
use mathlib.Core.Bool.{Bool, true, false, ◌&&◌, ◌||◌, cond}
use mathlib.Core.List.{List, [], ◌∷◌, ◌++◌, map, flat_map, append_assoc}
use Rattle.std.proofs.lemmas.Option.{none-some, same_Some}
use mathlib.Core.Logic.{◌⊎◌, inl, inr, ⊎_elim, ⊎_map}
use lib.Dec.{eqb, ltb}
use lib.ListN.{length, length-append, length-map}
use lib.Seq.{take-append_seam, drop-append_seam}
use native.Mathlib.Nat.{mul-zero, mul-suc, mul-div_cancel}
use native.Mathlib.Omega.{arith}
use Rattle.octets.specs.LittleEndian.{fields_at}
use Rattle.octets.proofs.Tests.{first_holds}
use Rattle.layout.specs.declared.address.Address.{Address}
use Rattle.layout.specs.declared.row.Row.{Row}
use Rattle.layout.specs.Address.{same}
use Rattle.layout.specs.Layout.{head_at}
use Rattle.layout.specs.Row.{active}
use Rattle.table.specs.Table.{own, row_for, active_next}
use Rattle.table.proofs.Heads.{fresh_length}
use Rattle.element.specs.Entries.{each, All}
use Rattle.element.specs.Lists.{contains, has_duplicate}
use Rattle.rules.specs.Exit.{Lent}
use Rattle.rules.specs.Calls.{decision}
use Rattle.rules.specs.Walk.{table_at, tables_in, points, Walked, arrived, row_of_point, leads_to, go_on, follow, walking, walk}
use Rattle.rules.proofs.Branches.{cond_cases}
use Rattle.rules.proofs.Alls.{all_implies}
use Rattle.rules.proofs.Rulings.{passed, passed_check}
use Rattle.theorems.specs.Mesh.{Point, Mesh, start, box_of, Event, walk_over, event_fits, happen, run, throughout, valid_next, next_in, next_at, met_by, met}
use Rattle.theorems.specs.Premise.{all_within}
use Rattle.theorems.proofs.Invariant.{row_of}
use Rattle.theorems.proofs.Pigeonhole.{no_longer}
use Rattle.theorems.proofs.LoopFree.{table_lengths, ends_good, loop_free}

-- ---- lists of one length side by side, cut into pieces of this length

module _ {A : Type 0} (f : A → List ℕ) (long : ℕ) where
  lengths_added : (l : List A) → All (λ x. length (f x) ≡ long) l → length (flat_map f l) ≡ long * length l
  unfolding flat_map All
  lengths_added [] h = sym (mul-zero long)
  lengths_added (x ∷ l) h =
      let e = mul-suc long (length l) in
      omega (arith, length-append (f x) (flat_map f l), h.0, lengths_added l h.1)

  -- The pieces from piece i on. `before` holds the octets of the earlier pieces.
  pieces_from : (before : List ℕ) (l : List A) (i : ℕ) → length before ≡ long * i → All (λ x. length (f x) ≡ long) l
      → each (table_at (before ++ flat_map f l) long) i (length l) ≡ map f l
  unfolding each flat_map All table_at
  pieces_from before [] i at h = refl
  pieces_from before (x ∷ l) i at h =
      let regroup : before ++ (f x ++ flat_map f l) ≡ (before ++ f x) ++ flat_map f l = sym (append_assoc before (f x) (flat_map f l)) in
      let next : length (before ++ f x) ≡ long * suc i = omega (arith, length-append before (f x), h.0, mul-suc long i) in
      ap₂ ◌∷◌
      (rw (← at, drop-append_seam before (f x ++ flat_map f l), ← h.0) (take-append_seam (f x) (flat_map f l)))
      (ap (λ (s : List ℕ). each (table_at s long) (suc i) (length l)) regroup ∙ pieces_from (before ++ f x) l (suc i) next h.1)

  pieces : (l : List A) → All (λ x. length (f x) ≡ long) l → tables_in (flat_map f l) (length l) ≡ map f l
  unfolding each
  pieces [] h = refl
  pieces (x ∷ l) h =
      let each_long : length (flat_map f (x ∷ l)) / length (x ∷ l) ≡ long = rw (lengths_added (x ∷ l) h) (mul-div_cancel long (omega arith)) in
      let P : ℕ → Type 0 = λ n. each (table_at (flat_map f (x ∷ l)) n) 0 (length (x ∷ l)) ≡ map f (x ∷ l) in
      subst P (sym each_long) (pieces_from [] (x ∷ l) 0 (sym (mul-zero long)) h)

-- ---- the tables of a mesh by address

abbrev tables_of : List Lent → List (List ℕ)
tables_of boxes = map (λ (l : Lent). l.table) boxes

module _ (a : Address) where
  row_of_point_lem : (d : Address) (boxes : List Lent) → row_of_point (tables_of boxes) a d ≡ row_of d (box_of a boxes)
  unfolding row_of_point box_of head_at fields_at
  row_of_point_lem d [] = refl
  row_of_point_lem d (l ∷ boxes) = by (same (own l.table) a) (row_of_point_lem d boxes)
    where
      by : (test : Bool) → row_of_point (tables_of boxes) a d ≡ row_of d (box_of a boxes)
          → cond test (row_for l.table d) (row_of_point (tables_of boxes) a d) ≡ row_of d (cond test (Some l) (box_of a boxes))
      by true rest = refl
      by false rest = rest

  is_point : (boxes : List Lent) → contains (points (tables_of boxes)) a ≡ is_some (box_of a boxes)
  unfolding contains box_of head_at fields_at
  is_point [] = refl
  is_point (l ∷ boxes) = by (same (own l.table) a) (is_point boxes)
    where
      by : (test : Bool) → contains (points (tables_of boxes)) a ≡ is_some (box_of a boxes)
          → (test || contains (points (tables_of boxes)) a) ≡ is_some (cond test (Some l) (box_of a boxes))
      by true rest = refl
      by false rest = rest

-- ---- a step of the walk along active rows is a step of the walk along valid rows

active_is_valid : (c : ℕ) (b : Address) (o : Option Row) → active_next c o ≡ Some b → valid_next o ≡ Some b
unfolding active_next active
active_is_valid c b None e = e
active_is_valid c b (Some r) e = by (eqb r.status 1) (ltb c r.expiry) e
  where
    by : (valid early : Bool) → cond (valid && early) (Some r.next) None ≡ Some b → cond valid (Some r.next) None ≡ Some b
    by true true e = e
    by true false e = absurd (none-some b e)
    by false early e = e

module _ (m : Mesh) (c : ℕ) (d : Address) where
  abbrev tables : List (List ℕ)
  tables = tables_of m.boxes

  -- a is the address of a point of the mesh.
  abbrev IsPoint : Address → Type 0
  IsPoint a = is_some (box_of a m.boxes) ≡ true

  next_at_lem : (a b : Address) → active_next c (row_of_point tables a d) ≡ Some b → next_at m d a ≡ Some b
  unfolding next_at
  next_at_lem a b e = go (box_of a m.boxes) (active_is_valid c b (row_of d (box_of a m.boxes)) (rw (row_of_point_lem a d m.boxes) at e))
    where
      go : (o : Option Lent) → valid_next (row_of d o) ≡ Some b → next_in m d o ≡ Some b
      go None e = e
      go (Some l) e = e

  -- The next hop o is b, and b is the destination or a point.
  record Led (o : Option Address) (b : Address) : Type 0 where
    next : o ≡ Some b
    known : (same b d || is_some (box_of b m.boxes)) ≡ true

  led : (o : Option Address) (b : Address) → leads_to tables c d o ≡ Some b → Led o b
  unfolding leads_to
  led None b e = absurd (none-some b e)
  led (Some x) b e = by (same x d || contains (points tables) x) refl e
    where
      by : (test : Bool) → (same x d || contains (points tables) x) ≡ test → cond test (Some x) None ≡ Some b → Led (Some x) b
      by true q e = subst (λ (y : Address). Led (Some x) y) (same_Some x b e) (record { next = refl; known = rw (is_point x m.boxes) at q })
      by false q e = absurd (none-some b e)

  -- A walk that has reached the destination answers 0.
  arrives : (remaining : ℕ) (a : Address) (hops : ℕ) → same a d ≡ true → follow tables c d remaining a hops ≡ arrived hops
  unfolding follow
  arrives zero a hops e = rw e refl
  arrives (suc remaining) a hops e = rw e refl

  -- The answer is 0 or 41.
  abbrev Ends : Walked → Type 0
  Ends w = (w.answer ≡ 0) ⊎ (w.answer ≡ 41)

  -- The answer is 0 or 41, or the walk along valid rows meets one point more than it has hops.
  abbrev EndsOrMeets : ℕ → Address → Walked → Type 0
  EndsOrMeets remaining a w = Ends w ⊎ (length (met m d remaining a) ≡ suc remaining)

  ends_or_meets : (remaining : ℕ) (a : Address) (hops : ℕ) → IsPoint a → EndsOrMeets remaining a (follow tables c d remaining a hops)
  unfolding follow met
  ends_or_meets zero a hops point =
      cond_cases (EndsOrMeets zero a) (same a d) (λ _. inl (inl refl)) (λ _. inr (rw point refl))
  ends_or_meets (suc remaining) a hops point =
      cond_cases (EndsOrMeets (suc remaining) a) (same a d) (λ _. inl (inl refl))
      (λ _. on (leads_to tables c d (active_next c (row_of_point tables a d))) refl (ends_or_meets remaining))
    where
      further : (b : Address) → Led (active_next c (row_of_point tables a d)) b → (test : Bool) → same b d ≡ test
          → ((b : Address) (hops : ℕ) → IsPoint b → EndsOrMeets remaining b (follow tables c d remaining b hops))
          → EndsOrMeets (suc remaining) a (follow tables c d remaining b (hops + 1))
      further b l true e rest = inl (inl (ap (λ (w : Walked). w.answer) (arrives remaining b (hops + 1) e)))
      further b l false e rest =
          ⊎_map (λ x. x) (λ long. rw (point, next_at_lem a b l.next) (ap suc long)) (rest b (hops + 1) (rw e at l.known))

      on : (o : Option Address) → leads_to tables c d (active_next c (row_of_point tables a d)) ≡ o
          → ((b : Address) (hops : ℕ) → IsPoint b → EndsOrMeets remaining b (follow tables c d remaining b hops))
          → EndsOrMeets (suc remaining) a (go_on tables c d o hops (follow tables c d remaining))
      on None e rest = inl (inr refl)
      on (Some b) e rest = further b (led _ b e) (same b d) refl rest

  -- Every address that a walk meets is the address of a point.
  all_points : (hops : ℕ) (a : Address) → All IsPoint (met m d hops a)
  unfolding met All
  all_points zero a = cond_cases (All IsPoint) (is_some (box_of a m.boxes)) (λ e. (e, tt)) (λ _. tt)
  all_points (suc hops) a = cond_cases (All IsPoint) (is_some (box_of a m.boxes)) (λ e. (e, rest (next_at m d a) (all_points hops))) (λ _. tt)
    where
      rest : (o : Option Address) → ((b : Address) → All IsPoint (met m d hops b)) → All IsPoint (met_by m d o (met m d hops))
      rest None h = tt
      rest (Some b) h = h b

  -- All tables have one length, and no walk along valid rows meets a point twice.
  module _ (long : ℕ) (alike : All (λ (l : Lent). length l.table ≡ long) m.boxes)
      (once : (hops : ℕ) (a : Address) → has_duplicate (met m d hops a) ≡ false) where
    -- A walk meets at most as many points as there are.
    met_fewer : (hops : ℕ) (a : Address) → length (met m d hops a) ≤ length m.boxes
    met_fewer hops a =
        let k : List Address = points tables in
        let listed : All (λ b. contains k b ≡ true) (met m d hops a) =
        all_implies IsPoint (λ b. contains k b ≡ true) (λ b p. is_point b m.boxes ∙ p) (met m d hops a) (all_points hops a) in
        let as_many : length k ≡ length m.boxes = length-map tables _ ∙ length-map m.boxes _ in
        omega (arith, no_longer (met m d hops a) k (once hops a) listed, as_many)

    way_ends : (a : Address) → IsPoint a → Ends (follow tables c d (length m.boxes) a 0)
    way_ends a point =
        ⊎_elim (λ ends. ends) (λ long. let few = met_fewer (length m.boxes) a in absurd (omega (arith, long, few)))
        (ends_or_meets (length m.boxes) a 0 point)

    -- An accepted walk starts at a point, because refusal 10 did not apply.
    walk_ends : (from : Address) (w : Walked) → walk_over m c from d ≡ Ok w → Ends w
    unfolding walk_over walk
    walk_ends from w e =
        let s : List ℕ = flat_map (λ (l : Lent). l.table) m.boxes in
        let n : ℕ = length m.boxes in
        let p = passed (walking s n c from d) w e in
        let checks = (walking s n c from d).checks in
        let cut : tables_in s n ≡ tables = pieces (λ (l : Lent). l.table) long m.boxes alike in
        let start : contains (points (tables_in s n)) from ≡ true =
        first_holds (contains (points (tables_in s n)) from) _ (passed_check 10 checks p.0) in
        subst Ends p.1 (rw cut (way_ends from (sym (is_point from m.boxes) ∙ (rw cut at start))))

-- ---- after a list of calls

-- Points with equally many rows start with tables of one length, and calls keep the lengths.
one_length : (long : ℕ) (boxes : List Lent) → All (λ (n : ℕ). n ≡ long) (table_lengths boxes) → All (λ (l : Lent). length l.table ≡ long) boxes
unfolding All
one_length long [] h = tt
one_length long (l ∷ boxes) h = (h.0, one_length long boxes h.1)

fresh_lengths : (rows : ℕ) (points : List Point) → All (λ (p : Point). p.rows ≡ rows) points
    → All (λ (n : ℕ). n ≡ 32 + 32 * rows) (table_lengths (start points).boxes)
unfolding start All
fresh_lengths rows [] h = tt
fresh_lengths rows (p ∷ points) h =
    (fresh_length (32 + 32 * p.rows) p.address p.number ∙ ap (λ (r : ℕ). 32 + 32 * r) h.0, fresh_lengths rows points h.1)

module _ (d : Address) (base : ℕ) (small : base < 2 ^ 32) (points : List Point) (events : List Event) (fit : all event_fits events ≡ true)
    (within : throughout (happen decision) (all_within d base) (start points) events ≡ true) where
  pub never_too_long : (rows : ℕ) → All (λ (p : Point). p.rows ≡ rows) points → (c : ℕ) (from : Address) (w : Walked)
      → walk_over (run (happen decision) (start points) events) c from d ≡ Ok w → (w.answer ≡ 0) ⊎ (w.answer ≡ 41)
  never_too_long rows alike c =
      let m : Mesh = run (happen decision) (start points) events in
      let long = (ends_good d base small points events fit within).long in
      walk_ends m c d (32 + 32 * rows)
      (one_length (32 + 32 * rows) m.boxes (rw long (fresh_lengths rows points alike)))
      (loop_free d base small points events fit within)
