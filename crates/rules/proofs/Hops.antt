-- A walk counts no more hops than there are points.
use Rattle.std.specs.Prelude.{Ok, Option, None, Some}
use Prim.Native.Nat.{ℕ, zero, suc, ◌+◌, ◌≤◌}
use mathlib.Core.Path.{◌≡◌, ap}
use mathlib.Core.List.{List}
use native.Mathlib.Omega.{arith}
use Rattle.layout.specs.declared.address.Address.{Address}
use Rattle.layout.specs.Address.{same}
use Rattle.table.specs.Table.{active_next}
use Rattle.rules.specs.Walk.{Walked, tables_in, row_of_point, leads_to, go_on, follow, walking, walk}
use Rattle.rules.proofs.Branches.{cond_cases}
use Rattle.rules.proofs.Rulings.{passed}

module _ (tables : List (List ℕ)) (c : ℕ) (d : Address) where
  on : (o : Option Address) (hops most : ℕ) (further : Address → ℕ → Walked) → hops ≤ most
      → ((next : Address) → (further next (hops + 1)).hops ≤ most) → (go_on tables c d o hops further).hops ≤ most
  on None hops most further here there = here
  on (Some next) hops most further here there = there next

  -- From any address the walk ends with at most the hops walked so far and the hops that remain.
  hops_in : (remaining : ℕ) (a : Address) (hops : ℕ) → (follow tables c d remaining a hops).hops ≤ hops + remaining
  unfolding follow
  hops_in zero a hops = cond_cases (λ (w : Walked). w.hops ≤ hops + 0) (same a d) (λ _. omega arith) (λ _. omega arith)
  hops_in (suc remaining) a hops =
      cond_cases (λ (w : Walked). w.hops ≤ hops + suc remaining) (same a d)
      (λ _. omega arith)
      (λ _. on (leads_to tables c d (active_next c (row_of_point tables a d))) hops (hops + suc remaining) (follow tables c d remaining) (omega arith)
      (λ next. let rest = hops_in remaining next (hops + 1) in omega arith))

pub walk_hops : (s : List ℕ) (count c : ℕ) (start d : Address) (w : Walked) → walk s count c start d ≡ Ok w → w.hops ≤ count
unfolding walk
walk_hops s count c start d w e =
    let is = (passed (walking s count c start d) w e).1 in
    let most = hops_in (tables_in s count) c d count start 0 in
    let same = ap (λ (x : Walked). x.hops) is in
    omega (arith, most, same)
