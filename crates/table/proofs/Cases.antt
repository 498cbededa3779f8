-- Laws of the definitions in `specs/`, case by case, as the proof of a `return` needs them: `search` applies each case to the
-- results of the calls before the `return`.
use Rattle.std.specs.Prelude.{Some, None, Option}
use Prim.Native.Nat.{ℕ, ◌+◌, ◌-◌, ◌%◌, ◌≤◌}
use lib.Dec.{eqb, leb}
use lib.ListN.{length}
use mathlib.Core.Path.{◌≡◌, refl, sym, ap, ◌∙◌}
use native.Mathlib.Omega.{arith}
use borrow.Author.Tests.{leb-true, eqb-true, not-true, not-false}
use mathlib.Core.Bool.{Bool, true, false, ◌&&◌, ◌||◌, not, and_comm, and-true, and-false}
use mathlib.Core.List.{List}
use Rattle.octets.proofs.Tests.{both}
use Rattle.layout.specs.declared.address.Address.{Address}
use Rattle.layout.specs.declared.row.Head.{Head}
use Rattle.layout.specs.declared.row.Row.{Row}
use Rattle.layout.specs.Address.{same}
use Rattle.layout.specs.Row.{head_ok, is_free, status_ok, is_held, row_ok, active}
use Rattle.layout.specs.Layout.{head_octets, row_octets, most_rows, place, sized, Sized, rows, all_zero, row_at, head_at, put_row}
use Rattle.table.proofs.Places.{first_below}
use Rattle.std.specs.Option.{option_or}
use Rattle.std.specs.Prelude.{is_none}
use Rattle.table.specs.Places.{first, every}
use Rattle.table.specs.Table.{vacant, holds, find_row, row_for, active_next, first_free, put_at, place_for, store, alone, passes, is_table}

-- If a equals d whenever b holds, the conjunction may have d at its end in place of a.
and_moved : (a b c d : Bool) → (b ≡ true → a ≡ d) → ((a && b) && c) ≡ (b && (c && d))
and_moved a true c d h = ap (λ (e : Bool). e && c) (and-true a ∙ h refl) ∙ and_comm d c
and_moved a false c d h = ap (λ (e : Bool). e && c) (and-false a)

module _ (t : List ℕ) where
  -- Check 1 bounds the length.
  pub of_size : (b : Bool) → b ≡ sized t → b ≡ true → Sized t
  unfolding sized
  of_size b e yes_b =
      let n = length t in
      let rest = leb n (place most_rows) && eqb ((n - head_octets) % row_octets) 0 in
      let all = both (leb (place 1) n) rest (sym e ∙ yes_b) in
      let least = leb-true (place 1) n all.0 in
      record {
        with_head = omega arith;
        not_longer = leb-true n (place most_rows) (both (leb n (place most_rows)) (eqb ((n - head_octets) % row_octets) 0) all.1).0;
      }

  -- Check 1 without a subtraction. If the first bound holds, the remainder is the same with and without the head.
  pub size_is : ((eqb (length t % row_octets) 0 && leb (place 1) (length t)) && leb (length t) (place most_rows)) ≡ sized t
  unfolding sized
  size_is =
      let n : ℕ = length t in
      let same_rest : leb (place 1) n ≡ true → eqb (n % row_octets) 0 ≡ eqb ((n - head_octets) % row_octets) 0 =
      λ h. let least = leb-true (place 1) n h in
      let rest : n % row_octets ≡ (n - head_octets) % row_octets = omega arith in
      ap (λ (k : ℕ). eqb k 0) rest in
      and_moved (eqb (n % row_octets) 0) (leb (place 1) n) (leb n (place most_rows)) (eqb ((n - head_octets) % row_octets) 0) same_rest

  -- A row that is found lies inside the table.
  within : (p : ℕ → Bool) (i : ℕ) → first p (rows t) ≡ Some i → place i + row_octets ≤ length t
  within p i e = let l = first_below p (rows t) i e in omega arith

  pub found_within : (d : Address) (f : Option ℕ) (i : ℕ) → f ≡ find_row t d → f ≡ Some i → place i + row_octets ≤ length t
  unfolding find_row
  found_within d f i e at_i = within (holds t d) i (sym e ∙ at_i)

  -- The row of a destination, by the place where it was found.
  pub row_at_lem : (d : Address) (f : Option ℕ) → f ≡ find_row t d → (i : ℕ) → f ≡ Some i → (r : Row) → r ≡ row_at t i → row_for t d ≡ Some r
  unfolding row_for
  row_at_lem d f fe i at_i r re = rw (← fe, at_i, re)

  pub row_none : (d : Address) (f : Option ℕ) → f ≡ find_row t d → f ≡ None → row_for t d ≡ None
  unfolding row_for
  row_none d f fe no_row = rw (← fe, no_row)

  -- The active next hop of a destination, by cases.
  module _ (c : ℕ) (d : Address) (f : Option ℕ) (fe : f ≡ find_row t d) where
    pub next_absent : f ≡ None → None ≡ active_next c (row_for t d)
    unfolding active_next
    next_absent no_row = rw (row_none d f fe no_row)

    module _ (i : ℕ) (at_i : f ≡ Some i) (r : Row) (re : r ≡ row_at t i) (a : Bool) (ae : a ≡ active c r) where
      pub next_inactive : not a ≡ true → None ≡ active_next c (row_for t d)
      unfolding active_next
      next_inactive no_a = rw (row_at_lem d f fe i at_i r re, ← ae, not-true a no_a)

      pub next_active : not a ≡ false → Some r.next ≡ active_next c (row_for t d)
      unfolding active_next
      next_active yes_a = rw (row_at_lem d f fe i at_i r re, ← ae, not-false a yes_a)

  module _ (d : Address) (f : Option ℕ) (fe : f ≡ find_row t d) (g : Option ℕ) (ge : g ≡ option_or f (first_free t)) where
    place_is : g ≡ place_for t d
    unfolding place_for
    place_is = ge ∙ ap (λ (k : Option ℕ). option_or k (first_free t)) fe

    pub place_within : (i : ℕ) → g ≡ Some i → place i + row_octets ≤ length t
    unfolding first_free
    place_within i at_i = by f fe (sym ge ∙ at_i)
      where
        by : (k : Option ℕ) → k ≡ find_row t d → option_or k (first_free t) ≡ Some i → place i + row_octets ≤ length t
        by (Some j) ke e = found_within d (Some j) i ke e
        by None ke e = within (vacant t) i e

  module _ (r : Row) (f : Option ℕ) (fe : f ≡ find_row t r.destination) (g : Option ℕ) (ge : g ≡ option_or f (first_free t)) where
    pub stored_row : (i : ℕ) → g ≡ Some i → (u : List ℕ) → u ≡ put_row t i r → u ≡ store t r
    unfolding store
    stored_row i at_i u ue = ue ∙ ap (put_at t r) (sym at_i ∙ place_is r.destination f fe g ge)

    pub stored_none : g ≡ None → t ≡ store t r
    unfolding store
    stored_none no_place = ap (put_at t r) (sym no_place ∙ place_is r.destination f fe g ge)

  pub alone_free : (i : ℕ) (b : Bool) → b ≡ vacant t i → b ≡ true → true ≡ alone t i
  unfolding alone
  alone_free i b e yes_b = cc

  pub alone_held : (i : ℕ) (b r : Bool) (d : Address) (f : Option ℕ) → b ≡ vacant t i → b ≡ false → d ≡ (row_at t i).destination
      → f ≡ first (holds t d) i → r ≡ is_none f → r ≡ alone t i
  unfolding alone
  alone_held i b r d f e no_b de fe re = cc

  -- The head decides whether octets are a table, and then the rows.
  module _ (h : Head) (a : Bool) (he : h ≡ head_at t) (ae : a ≡ head_ok h) where
    pub bad_head : a ≡ false → false ≡ is_table t
    unfolding is_table
    bad_head no_a = cc

    pub table_is : (n : ℕ) (b : Bool) → a ≡ true → n ≡ rows t → b ≡ every (passes t h.own) n → b ≡ is_table t
    unfolding is_table
    table_is n b yes_a ne be = cc

  -- Whether row i is held for d, by cases.
  module _ (d e : Address) (i : ℕ) (ee : e ≡ (row_at t i).destination) where
    module _ (c : Bool) (ce : c ≡ same e d) where
      pub holds_not : c ≡ false → c ≡ holds t d i
      unfolding holds
      holds_not n = n ∙ rw (← ee, ← ce, n)

      pub holds_if : c ≡ true → (b : Bool) → b ≡ vacant t i → not b ≡ holds t d i
      unfolding holds
      holds_if y b be = rw (← ee, ← ce, y, ← be)

-- Whether row i is legal, by cases: free or held.
module _ (t : List ℕ) (own : Address) (i : ℕ) (a b : Bool) (ae : a ≡ vacant t i) where
  pub row_free : a ≡ true → b ≡ is_free (row_at t i) → b ≡ row_ok own (row_at t i)
  unfolding row_ok is_held status_ok vacant
  row_free v e = rw e (sym (by (is_free (row_at t i))))
    where
      by : (c : Bool) → (c || is_held own (row_at t i)) ≡ c
      by true = refl
      by false = rw (eqb-true (row_at t i).status 0 (sym ae ∙ v))

  pub row_held : (r : Row) → r ≡ row_at t i → a ≡ false → b ≡ is_held own r → b ≡ row_ok own (row_at t i)
  unfolding row_ok is_free all_zero vacant
  row_held r re v e = rw (sym ae ∙ v, ← re) e
