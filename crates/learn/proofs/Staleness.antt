-- Laws of refusal 25, case by case, as the proofs of the functions need them.
use Rattle.std.specs.Prelude.{Option, Some, None}
use Prim.Native.Nat.{ℕ}
use mathlib.Core.Path.{◌≡◌}
use mathlib.Core.Bool.{Bool, true, false, ◌&&◌}
use mathlib.Core.List.{List}
use lib.Dec.{eqb, leb}
use borrow.Author.Tests.{eq-eqb, ne_eqb}
use Rattle.counters.specs.declared.Metric.{Metric}
use Rattle.counters.specs.Numbers.{older}
use Rattle.layout.specs.declared.row.Row.{Row}
use Rattle.layout.specs.Layout.{row_at}
use Rattle.table.specs.Table.{find_row}
use Rattle.table.proofs.Cases.{row_at_lem, row_none}
use Rattle.element.specs.declared.PathInfo.{PathInfo}
use Rattle.rules.specs.declared.Arrival.{Arrival}
use Rattle.rules.specs.Learn.{metric_here}
use Rattle.rules.specs.Receive.{is_stale_for, is_stale}

module _ (a : Arrival) (p : PathInfo) (r : Row) where
  pub stale_unknown : (r.known ≡ 1 → ⊥) → false ≡ is_stale_for a p r
  unfolding is_stale_for
  stale_unknown k = rw (ne_eqb r.known 1 k)

  module _ (k : r.known ≡ 1) (b : Bool) (be : b ≡ older p.number r.number) where
    pub stale_older : b ≡ true → true ≡ is_stale_for a p r
    unfolding is_stale_for
    stale_older e = rw (eq-eqb r.known 1 k, ← be, e)

    pub stale_by_metric : b ≡ false → (m : Metric) → m ≡ metric_here a p → (q : Bool) → q ≡ eqb p.number.0 r.number.0
        → (q && leb r.metric.0 m.0) ≡ is_stale_for a p r
    unfolding is_stale_for
    stale_by_metric e m me q qe = rw (eq-eqb r.known 1 k, ← be, e, me, qe)

module _ (t : List ℕ) (a : Arrival) (p : PathInfo) (f : Option ℕ) (fe : f ≡ find_row t p.subject) where
  pub stale_absent : f ≡ None → false ≡ is_stale t a p
  unfolding is_stale
  stale_absent e = rw (row_none t p.subject f fe e)

  pub stale_found : (i : ℕ) → f ≡ Some i → (r : Row) → r ≡ row_at t i → (b : Bool) → b ≡ is_stale_for a p r → b ≡ is_stale t a p
  unfolding is_stale
  stale_found i e r re b be = rw (row_at_lem t p.subject f fe i e r re) be
