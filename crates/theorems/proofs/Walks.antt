-- Under the invariant, a walk towards d meets no point twice. The rows that it follows get strictly better until it reaches d.
use Rattle.std.specs.Prelude.{Option, None, Some, is_some}
use Prim.Native.Nat.{ℕ, zero, suc}
use mathlib.Core.Path.{◌≡◌, refl, sym, ap, ◌∙◌}
use mathlib.Core.Bool.{Bool, true, false, ◌||◌, cond}
use mathlib.Core.List.{List, [], ◌∷◌}
use Rattle.std.proofs.lemmas.Option.{none-some, same_Some}
use mathlib.Core.Logic.{◌⊎◌, inl, inr, ⊎_map}
use lib.Dec.{eqb}
use Rattle.counters.proofs.Rank.{Above, at_least_trans, at_least_above, weaken, not_above_itself}
use Rattle.layout.specs.declared.address.Address.{Address}
use Rattle.layout.specs.declared.row.Row.{Row}
use Rattle.layout.specs.Address.{same}
use Rattle.table.specs.Table.{row_for}
use Rattle.table.proofs.WellFormed.{same_is}
use Rattle.element.specs.Lists.{contains, has_duplicate}
use Rattle.element.specs.Entries.{All}
use Rattle.rules.proofs.Branches.{cond_cases}
use Rattle.rules.specs.Exit.{Lent}
use Rattle.theorems.specs.Mesh.{Mesh, box_of, valid_next, next_in, next_at, met_by, met}
use Rattle.theorems.proofs.Invariant.{Leads, home, nearer, row_at, Inv}

not_contained : (P : Address → Type 0) (a : Address) → (P a → ⊥) → (l : List Address) → All P l → contains l a ≡ false
unfolding contains All
not_contained P a never [] h = refl
not_contained P a never (b ∷ l) h = by (same b a) refl (not_contained P a never l h.1)
  where
    by : (k : Bool) → same b a ≡ k → contains l a ≡ false → (k || contains l a) ≡ false
    by true e rest = absurd (never (rw (← same_is b a e) h.0))
    by false e rest = rest

module _ (d : Address) (base : ℕ) (m : Mesh) (inv : Inv d base m) where
  -- The row for d at the point a is valid, with next hop b.
  record Hop (a b : Address) : Type 0 where
    row : Row
    found : row_at d m.boxes a ≡ Some row
    valid : eqb row.status 1 ≡ true
    next : row.next ≡ b

  hop : (a b : Address) → next_at m d a ≡ Some b → Hop a b
  unfolding next_at row_at
  hop a b e = go (box_of a m.boxes) refl e
    where
      through : (l : Lent) → box_of a m.boxes ≡ Some l → (o : Option Row) → row_for l.table d ≡ o → valid_next o ≡ Some b → Hop a b
      through l at None q e = absurd (none-some b e)
      through l at (Some r) q e = by (eqb r.status 1) refl e
        where
          by : (k : Bool) → eqb r.status 1 ≡ k → cond k (Some r.next) None ≡ Some b → Hop a b
          by true v e = record { row = r; found = rw at q; valid = v; next = same_Some r.next b e }
          by false v e = absurd (none-some b e)

      go : (o : Option Lent) → box_of a m.boxes ≡ o → next_in m d o ≡ Some b → Hop a b
      go None q e = absurd (none-some b e)
      go (Some l) q e = through l q (row_for l.table d) refl e

  -- The row for d at the point c is strictly better than the row r.
  record Beats (r : Row) (c : Address) : Type 0 where
    row : Row
    found : row_at d m.boxes c ≡ Some row
    better : Above base row.number row.metric.0 r.number r.metric.0

  -- c is d, or has a strictly better row than r.
  abbrev Further : Row → Address → Type 0
  Further r c = (c ≡ d) ⊎ Beats r c

  -- d has no row for itself, so no walk leads on from d.
  not_from_d : {a b : Address} → Hop a b → a ≡ d → ⊥
  not_from_d {a} h e = none-some h.row (sym inv.absent ∙ ap (row_at d m.boxes) (sym e) ∙ h.found)

  -- The next hop of a valid row is d, or has a strictly better row.
  next_further : {a b : Address} (h : Hop a b) → Further h.row b
  next_further {a} {b} h = go (inv.rooted a h.row h.found h.valid)
    where
      go : Leads d base m.log h.row → Further h.row b
      go (home e) = inl (sym h.next ∙ e)
      go (nearer k) =
          let at_b : k.sent.sender ≡ b = k.by ∙ h.next in
          ⊎_map (λ e. sym at_b ∙ e)
          (λ st. record { row = st.row; found = ap (row_at d m.boxes) (sym at_b) ∙ st.found; better = at_least_above st.good k.better })
          (inv.backed k.sent k.logged k.path k.is_some_and k.about)

  further_trans : (r : Row) {b c : Address} → Further r b → (h : Hop b c) → Further h.row c → Further r c
  further_trans r (inl e) h far = absurd (not_from_d h e)
  further_trans r (inr near) h (inl e) = inl e
  further_trans r (inr near) h (inr far) =
      let same_row : near.row ≡ h.row = same_Some near.row h.row (sym near.found ∙ h.found) in
      inr (record { row = far.row; found = far.found; better = at_least_trans far.better (rw same_row at (weaken near.better)) })

  -- If b is d or has a strictly better row than r, then every point that a walk from b meets is d or has a strictly better row
  -- than r.
  all_further : (r : Row) (hops : ℕ) (b : Address) → Further r b → All (Further r) (met m d hops b)
  unfolding met All
  all_further r zero b near = cond_cases (All (Further r)) (is_some (box_of b m.boxes)) (λ _. (near, tt)) (λ _. tt)
  all_further r (suc hops) b near =
      cond_cases (All (Further r)) (is_some (box_of b m.boxes)) (λ _. (near, rest (next_at m d b) refl (all_further r hops))) (λ _. tt)
    where
      rest : (o : Option Address) → next_at m d b ≡ o → ((c : Address) → Further r c → All (Further r) (met m d hops c))
          → All (Further r) (met_by m d o (met m d hops))
      rest None e ih = tt
      rest (Some c) e ih = ih c (further_trans r near (hop b c e) (next_further (hop b c e)))

  -- The point of a row is not among the points that the walk meets after it.
  not_again : {a b : Address} (h : Hop a b) → Further h.row a → ⊥
  not_again h (inl e) = not_from_d h e
  not_again h (inr k) =
      let same_row : k.row ≡ h.row = same_Some k.row h.row (sym k.found ∙ h.found) in
      not_above_itself (rw same_row at k.better)

  pub no_duplicate : (hops : ℕ) (a : Address) → has_duplicate (met m d hops a) ≡ false
  unfolding met has_duplicate contains
  no_duplicate zero a = cond_cases (λ (l : List Address). has_duplicate l ≡ false) (is_some (box_of a m.boxes)) (λ _. refl) (λ _. refl)
  no_duplicate (suc hops) a =
      cond_cases (λ (l : List Address). has_duplicate l ≡ false) (is_some (box_of a m.boxes))
      (λ _. rest (next_at m d a) refl (no_duplicate hops)) (λ _. refl)
    where
      rest : (o : Option Address) → next_at m d a ≡ o → ((b : Address) → has_duplicate (met m d hops b) ≡ false)
          → has_duplicate (a ∷ met_by m d o (met m d hops)) ≡ false
      rest None e ih = refl
      rest (Some b) e ih =
          let h : Hop a b = hop a b e in
          rw (not_contained (Further h.row) a (not_again h) (met m d hops b) (all_further h.row hops b (next_further h))) (ih b)
