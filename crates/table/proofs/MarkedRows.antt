-- Laws of marking the destinations of rows from the first row on. A marked destination is looked for in the rows before.
use Prim.Native.Nat.{ℕ, ◌+◌, ◌<◌}
use mathlib.Core.Path.{◌≡◌, refl, sym, ap, ◌∙◌}
use mathlib.Core.Bool.{Bool, true, false, not, ◌&&◌, ◌||◌, or-true}
use mathlib.Core.List.{List}
use lib.ListN.{length, get_or, set}
use native.Mathlib.Omega.{arith}
use borrow.Author.Tests.{ne_eqb}
use Rattle.layout.specs.Layout.{row_at}
use Rattle.layout.specs.Marks.{mark}
use Rattle.table.specs.Table.{vacant, holds, alone, passes}
use Rattle.layout.specs.Row.{row_ok}
use Rattle.layout.specs.declared.address.Address.{Address}
use Rattle.layout.proofs.Marks.{Marked, marked_up, unmarked}
use Rattle.table.proofs.Places.{first_nowhere}

-- A test may be skipped if another test implies it.
spared : (x a : Bool) → (x ≡ false → a ≡ true) → (not x || a) ≡ a
spared false a f = sym (f refl)
spared true a f = refl

unfoldable pub destination_in : List ℕ → ℕ → Address
destination_in t i = (row_at t i).destination

module _ (t : List ℕ) (seen : List Bool) (last i : ℕ) (d : Address) (de : d ≡ (row_at t i).destination) (h : ℕ) (he : h ≡ mark last d)
    (m : Marked (destination_in t) seen last 0 i) where
  -- If the destination of row i is not marked, no row before row i is held for it, and row i stands alone.
  other : get_or seen h false ≡ false → (k : ℕ) → k < i → holds t (row_at t i).destination k ≡ false
  unfolding holds destination_in
  other e k l =
      let apart = ne_eqb (row_at t k).destination.0 (row_at t i).destination.0
      (unmarked (destination_in t) seen last 0 i m (row_at t i).destination h (he ∙ ap (mark last) de) e k (omega arith) l) in
      rw apart

  stands_alone : get_or seen h false ≡ false → alone t i ≡ true
  unfolding alone
  stands_alone e = rw (first_nowhere (holds t (row_at t i).destination) i (other e)) (or-true (vacant t i))

  -- If the mark is not set, the search of the rows before may be skipped.
  pub passes_by : (a : Address) (b : Bool) → b ≡ (row_ok a (row_at t i) && (not (get_or seen h false) || alone t i)) → b ≡ passes t a i
  passes_by a b be =
      be ∙ ap (◌&&◌ (row_ok a (row_at t i))) (spared (get_or seen h false) (alone t i) stands_alone)

  pub destination_marked : length seen ≡ last + 1 → Marked (destination_in t) (set seen h true) last 0 (i + 1)
  unfolding destination_in
  destination_marked le = marked_up (destination_in t) seen last 0 i h le m (he ∙ ap (mark last) de)
