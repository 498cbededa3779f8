-- Laws of refusal 27, case by case, as the proofs of the functions need them.
use Rattle.std.specs.Prelude.{Option, Some, None, is_none}
use Prim.Native.Nat.{ℕ, ◌+◌}
use mathlib.Core.Path.{◌≡◌, refl, sym, ap₂, ◌∙◌}
use mathlib.Core.Bool.{Bool, true, false, cond}
use mathlib.Core.List.{List}
use native.Mathlib.Nat.{add-zero}
use Rattle.layout.specs.Address.{same}
use Rattle.layout.specs.declared.address.Address.{Address}
use Rattle.layout.specs.Layout.{row_at}
use Rattle.table.specs.Table.{find_row, row_for, new_rows}
use Rattle.table.proofs.Cases.{row_at_lem, row_none}
use Rattle.element.specs.declared.PathInfo.{PathInfo}
use Rattle.rules.specs.declared.Arrival.{Arrival}
use Rattle.rules.specs.Receive.{rows_needed}

pub new_rows_lem : (t : List ℕ) (d : Address) (f : Option ℕ) → f ≡ find_row t d → (n : ℕ) → n ≡ cond (is_none f) 1 0 → n ≡ new_rows (row_for t d)
new_rows_lem t d (Some i) fe n ne = rw (row_at_lem t d (Some i) fe i refl (row_at t i) refl) ne
new_rows_lem t d None fe n ne = rw (row_none t d None fe refl) ne

module _ (t : List ℕ) (a : Arrival) (p : PathInfo) (n : ℕ) (ne : n ≡ new_rows (row_for t p.subject)) where
  pub one_address : (b : Bool) → b ≡ same a.transmitter p.subject → b ≡ true → n ≡ rows_needed t a p
  unfolding rows_needed
  one_address b be e = rw (← be, e) (ne ∙ sym (add-zero (new_rows (row_for t p.subject))))

  pub two_addresses : (b : Bool) → b ≡ same a.transmitter p.subject → b ≡ false → (m : ℕ) → m ≡ new_rows (row_for t a.transmitter) → n + m ≡ rows_needed t a p
  unfolding rows_needed
  two_addresses b be e m me = rw (← be, e) (ap₂ ◌+◌ ne me)
