-- Laws of whether a row answers for a destination, and of the row that answers.
use Rattle.std.specs.Prelude.{Option, None, Some}
use Prim.Native.Nat.{ℕ}
use mathlib.Core.Path.{◌≡◌, refl}
use mathlib.Core.Bool.{Bool, true, false, not, ◌||◌}
use mathlib.Core.List.{List, [], ◌∷◌}
use borrow.Author.Tests.{eq-eqb, not-false}
use Rattle.counters.specs.declared.SequenceNumber.{SequenceNumber}
use Rattle.counters.specs.Numbers.{older}
use Rattle.layout.specs.declared.row.Row.{Row}
use Rattle.layout.specs.Row.{active}
use Rattle.table.specs.Table.{row_for}
use Rattle.element.specs.declared.PathInfo.{PathInfo}
use Rattle.element.specs.declared.Target.{Target}
use Rattle.rules.specs.declared.Arrival.{Arrival}
use Rattle.element.specs.Flags.{has_do, number_unknown}
use Rattle.rules.specs.Destinations.{Answered, row_reply, answers_for, kept_on, kept_after_reply, for_another}
use Rattle.answering.specs.Answering.{if_answers, answering_row}

-- With DO = 0 an active row of known number answers by its number.
pub answers_by_number : (c : ℕ) (q : Target) (r : Row) (d : Bool) → d ≡ has_do q → d ≡ false → (b : Bool) → b ≡ active c r → not b ≡ false
    → r.known ≡ 1 → (u : Bool) → u ≡ number_unknown q → (o : Bool) → o ≡ older r.number q.number → (u || not o) ≡ answers_for c q r
unfolding answers_for
answers_by_number c q r d de no_do b be is_active k u ue o oe =
    rw (← de, no_do, ← be, not-false b is_active, eq-eqb r.known 1 k, ← ue, ← oe)

module _ (c : ℕ) (q : Target) (d : Bool) (de : d ≡ has_do q) (e : d ≡ true) where
  -- With DO = 1 no row answers.
  none_answers : (o : Option Row) → None ≡ if_answers c q o
  unfolding answers_for
  none_answers None = refl
  none_answers (Some r) = rw (← de, e)

  pub nobody_do : (t : List ℕ) → None ≡ answering_row t c q
  unfolding answering_row
  nobody_do t = none_answers (row_for t q.address)

-- ---- `for_another` depends on the answering row

module _ (t : List ℕ) (a : Arrival) (p : PathInfo) (n : SequenceNumber) (q : Target) where
  abbrev pub another_by : Option Row → Answered
  another_by None = kept_on n q
  another_by (Some r) = record { number = n; replies = row_reply a p r ∷ []; kept = kept_after_reply q }

  by_row : (o : Option Row) → for_another t a p n q o ≡ another_by (if_answers a.clock q o)
  unfolding for_another
  by_row None = refl
  by_row (Some r) = by (answers_for a.clock q r) refl
    where
      by : (b : Bool) → answers_for a.clock q r ≡ b → for_another t a p n q (Some r) ≡ another_by (if_answers a.clock q (Some r))
      by true e = rw e
      by false e = rw e

  pub answering_is : for_another t a p n q (row_for t q.address) ≡ another_by (answering_row t a.clock q)
  unfolding answering_row
  answering_is = by_row (row_for t q.address)
