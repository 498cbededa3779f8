-- Ranks numbers with their metrics, for numbers inside a window of 2^31 numbers. A newer number is better. Of two equal numbers,
-- the one with the smaller metric is better. Inside the window, this order has no cycles.
use Rattle.std.proofs.Common.{◌≡◌, ℕ, suc, ◌^◌, ◌<◌, ◌≤◌, Bool, true, false, ◌&&◌, ◌||◌, eqb, ltb, leb, refl, ap, ◌∙◌, arith, ltb-true, eqb-true, leb-false}
use mathlib.Core.Bool.{and-eq-true_iff}
use borrow.Author.Tests.{eqb-false}
use Rattle.counters.specs.declared.SequenceNumber.{SequenceNumber}
use Rattle.counters.specs.Numbers.{stepped, next_number, wrapped, newer, older}
use Rattle.counters.proofs.Laws.{newer_by, older_by}

-- States that n is one of the 2^31 numbers from base on.
pub record Window (base : ℕ) (n : SequenceNumber) : Type 0 where
  pub fits : n.0 < 2 ^ 32
  pub near : wrapped n.0 base < 2 ^ 31

-- States that number n with metric m is at least as good as number n' with metric m'.
pub data AtLeast (base : ℕ) (n : SequenceNumber) (m : ℕ) (n' : SequenceNumber) (m' : ℕ) : Type 0 where
  ahead : wrapped n'.0 base < wrapped n.0 base → AtLeast base n m n' m'
  level : n ≡ n' → m ≤ m' → AtLeast base n m n' m'

-- States that number n with metric m is strictly better: even with a metric larger by one it is at least as good.
abbrev pub Above : ℕ → SequenceNumber → ℕ → SequenceNumber → ℕ → Type 0
Above base n m n' m' = AtLeast base n (suc m) n' m'

module _ {base : ℕ} {n : SequenceNumber} {m : ℕ} {n' : SequenceNumber} {m' : ℕ} where
  pub at_least_trans : {n'' : SequenceNumber} {m'' : ℕ} → AtLeast base n m n' m' → AtLeast base n' m' n'' m'' → AtLeast base n m n'' m''
  at_least_trans (ahead p) (ahead q) = ahead (omega arith)
  at_least_trans (ahead p) (level e h) = ahead (omega (arith, ap (λ (k : SequenceNumber). wrapped k.0 base) e))
  at_least_trans (level e h) (ahead q) = ahead (omega (arith, ap (λ (k : SequenceNumber). wrapped k.0 base) e))
  at_least_trans (level e h) (level e' h') = level (e ∙ e') (omega arith)

  lift : AtLeast base n m n' m' → AtLeast base n (suc m) n' (suc m')
  lift (ahead h) = ahead h
  lift (level e h) = level e (omega arith)

  pub weaken : Above base n m n' m' → AtLeast base n m n' m'
  weaken (ahead p) = ahead p
  weaken (level e h) = level e (omega arith)

pub at_least_above : {base : ℕ} {n n' n'' : SequenceNumber} {m m' m'' : ℕ} → AtLeast base n m n' m' → Above base n' m' n'' m'' → Above base n m n'' m''
at_least_above p q = at_least_trans (lift p) q

pub not_above_itself : {base : ℕ} {n : SequenceNumber} {m : ℕ} → Above base n m n m → ⊥
not_above_itself (ahead p) = omega arith
not_above_itself (level e h) = omega arith

same_number : (s t : SequenceNumber) → s.0 ≡ t.0 → s ≡ t
same_number s t e = ap {B = SequenceNumber} (λ x. record { 0 = x }) e

module _ {base : ℕ} (small : base < 2 ^ 32) {s t : SequenceNumber} (hs : Window base s) (ht : Window base t) where
  -- What refusal 25 lets through is at least as good: a number that is not older, and that has a smaller metric if it is equal.
  pub not_stale : {m m' : ℕ} → (older s t || (eqb s.0 t.0 && leb m' m)) ≡ false → AtLeast base s m t m'
  unfolding wrapped
  not_stale {m} {m'} h = go (older s t) (older_by s t) (eqb s.0 t.0) refl h
    where
      go : (o : Bool) → o ≡ leb (2 ^ 31) (wrapped s.0 t.0) → (b : Bool) → eqb s.0 t.0 ≡ b → (o || (b && leb m' m)) ≡ false → AtLeast base s m t m'
      go true q b e h = let z : ◌≡◌ {A = ℕ} 0 1 = cc in absurd (omega arith)
      go false q true e h = level (same_number s t (eqb-true s.0 t.0 e)) (omega (arith, leb-false m' m h))
      go false q false e h =
          ahead (omega (arith, leb-false (2 ^ 31) (wrapped s.0 t.0) (cc q), eqb-false s.0 t.0 e, hs.fits, hs.near, ht.fits, ht.near))

  -- A newer number is better, whatever the metrics.
  pub newer_ahead : {m m' : ℕ} → newer s t ≡ true → AtLeast base s m t m'
  unfolding wrapped
  newer_ahead h =
      let signs = (and-eq-true_iff (ltb 0 (wrapped s.0 t.0)) (ltb (wrapped s.0 t.0) (2 ^ 31))).0 (rw newer_by at h) in
      let above = ltb-true 0 (wrapped s.0 t.0) signs.0 in
      let below = ltb-true (wrapped s.0 t.0) (2 ^ 31) signs.1 in
      ahead (omega (arith, above, below, hs.fits, hs.near, ht.fits, ht.near))

-- The next number is better, whatever the metrics, if it still lies inside the window.
pub next_ahead : {base : ℕ} → base < 2 ^ 32 → {t : SequenceNumber} {m m' : ℕ} → Window base t → Window base (next_number t)
    → AtLeast base (next_number t) m t m'
unfolding stepped wrapped
next_ahead small ht hs = ahead (omega (arith, ht.fits, ht.near, hs.near))
