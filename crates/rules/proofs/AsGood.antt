-- No call makes a row worse. As long as numbers stay inside a window of 2^31, a row of known number stays at least as good as it
-- was. Loop freedom needs only four laws about numbers: `path_no_worse`, `link_no_worse`, `break_falls` and `error_falls`.
use Rattle.std.specs.Prelude.{Option, None, Some}
use Prim.Native.Nat.{ℕ, ◌-◌, ◌^◌, ◌<◌, ◌≤◌}
use mathlib.Core.Path.{◌≡◌, refl, ap}
use mathlib.Core.Bool.{true, false}
use mathlib.Core.List.{List}
use lib.Dec.{eqb}
use native.Mathlib.Nat.{le_refl}
use native.Mathlib.Omega.{arith}
use borrow.Author.Tests.{ltb-true, leb-true, eqb-true}
use Rattle.counters.specs.declared.SequenceNumber.{SequenceNumber}
use Rattle.counters.specs.Numbers.{newer}
use Rattle.counters.proofs.Rank.{Window, AtLeast, level, not_stale, newer_ahead, next_ahead}
use Rattle.layout.specs.declared.row.Row.{Row}
use Rattle.layout.specs.Row.{active, invalidated, raised}
use Rattle.table.specs.Table.{row_for}
use Rattle.element.specs.declared.LostDestination.{LostDestination}
use Rattle.element.specs.declared.PathInfo.{PathInfo}
use Rattle.rules.specs.declared.Arrival.{Arrival}
use Rattle.rules.specs.Learn.{metric_here, takes_link}
use Rattle.rules.specs.Errors.{number_beside, erred_with, erred, broken}
use Rattle.rules.specs.Receive.{is_stale_for, is_stale}
use Rattle.rules.proofs.Branches.{cond_cases}

-- States that the number of a row lies in the window if it is known.
abbrev pub InWindow : ℕ → Row → Type 0
InWindow base r = eqb r.known 1 ≡ true → Window base r.number

module _ (base : ℕ) (small : base < 2 ^ 32) where
  -- A path that passes refusal 25 is at least as good as the subject's row.
  pub path_no_worse : (t : List ℕ) (a : Arrival) (p : PathInfo) → is_stale t a p ≡ false → (r : Row) → row_for t p.subject ≡ Some r
      → eqb r.known 1 ≡ true → Window base p.number → Window base r.number
      → AtLeast base p.number (metric_here a p).0 r.number r.metric.0
  unfolding is_stale is_stale_for
  path_no_worse t a p fresh r found known new old = not_stale small new old (rw (found, known) at fresh)

  -- What a break or a RERR makes of the row r. The row stays as it is, or it is no longer valid and its rank is at least as good.
  pub data Falls (r r' : Row) : Type 0 where
    stays : r' ≡ r → Falls r r'
    falls : eqb r'.status 1 ≡ false → r'.known ≡ r.known
        → (eqb r.known 1 ≡ true → AtLeast base r'.number r'.metric.0 r.number r.metric.0) → Falls r r'

  invalid_falls : (r : Row) → Falls r (invalidated r)
  unfolding invalidated
  invalid_falls r = falls refl refl (λ _. level refl (le_refl r.metric.0))

  raised_falls : (n : SequenceNumber) (r : Row) → (eqb r.known 1 ≡ true → AtLeast base n (2 ^ 32 - 1) r.number r.metric.0)
      → Falls r (raised n (invalidated r))
  unfolding raised invalidated
  raised_falls n r h = falls refl refl h

  pub break_falls : (r : Row) → InWindow base r → InWindow base (broken r) → Falls r (broken r)
  unfolding broken raised invalidated
  break_falls r near =
      cond_cases (λ (q : Row). InWindow base q → Falls r q) (eqb r.known 1)
      (λ k near'. raised_falls _ r (λ _. next_ahead small (near k) (near' k)))
      (λ _ _. invalid_falls r)

  erred_with_falls : (o : Option SequenceNumber) (r : Row) → InWindow base r → InWindow base (erred_with o r) → Falls r (erred_with o r)
  unfolding erred_with raised invalidated
  erred_with_falls None r near = λ _. stays refl
  erred_with_falls (Some n) r near =
      cond_cases (λ (q : Row). InWindow base q → Falls r q) (newer n r.number)
      (λ e near'. raised_falls _ r (λ k. newer_ahead small (near' k) (near k) e))
      (λ _ _. invalid_falls r)

  pub error_falls : (named : List LostDestination) (r : Row) → InWindow base r → InWindow base (erred named r) → Falls r (erred named r)
  unfolding erred
  error_falls named r = erred_with_falls (number_beside r.destination named) r

-- Step 2 changes a row of known number only if its metric gets no worse.
pub link_no_worse : (a : Arrival) (r : Row) → takes_link a (Some r) ≡ true → eqb r.known 1 ≡ true → a.link.0 ≤ r.metric.0
unfolding takes_link
link_no_worse a r h known =
    cond_cases (λ b. b ≡ true → a.link.0 ≤ r.metric.0) (active a.clock r)
    (λ _ e. omega (arith, ltb-true a.link.0 r.metric.0 e))
    (λ _ e. leb-true a.link.0 r.metric.0 (rw known_not_zero at e)) h
  where
    known_not_zero : eqb r.known 0 ≡ false
    known_not_zero = ap (λ k. eqb k 0) (eqb-true r.known 1 known)
