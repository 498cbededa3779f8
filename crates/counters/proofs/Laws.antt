-- Laws of comparing two numbers: by their distance, and inside a window of 2^31 consecutive numbers. The distance from t to s is
-- s - t, wrapped to 32 bits.
use Rattle.std.proofs.Common.{◌≡◌, ℕ, ◌+◌, ◌-◌, ◌%◌, ◌^◌, ◌<◌, Bool, true, false, cond, ◌&&◌, ltb, leb, pos, negsuc, sym, refl, ◌∙◌, arith, ltb-false, ltb-true, le-ltb, lt-ltb, le-leb}
use mathlib.Core.Bool.{and-true, and-false}
use lib.Signed.{lt_z}
use borrow.Author.Tests.{lt-leb}
use Rattle.counters.specs.declared.SequenceNumber.{SequenceNumber}
use Rattle.counters.specs.Numbers.{wrapped, newer, older}

-- ---- by the distance

-- A wrapping subtraction gives the distance.
wraps : (d s t : ℕ) → d < 2 ^ 32 → t < 2 ^ 32 → (d + t) % 2 ^ 32 ≡ s → d ≡ wrapped s t
unfolding wrapped
wraps d s t hd ht e = omega arith

above : (b : Bool) (d m : ℕ) → lt_z (pos 0) (cond b (pos d) (negsuc m)) ≡ (ltb 0 d && b)
above true d m = sym (and-true (ltb 0 d))
above false d m = sym (and-false (ltb 0 d))

-- Number s is newer than t if it lies ahead of t by less than half the circle.
pub newer_by : (s t : SequenceNumber) → newer s t ≡ (ltb 0 (wrapped s.0 t.0) && ltb (wrapped s.0 t.0) (2 ^ 31))
unfolding newer
newer_by s t = above (ltb (wrapped s.0 t.0) (2 ^ 31)) (wrapped s.0 t.0) _

below : (b : Bool) (d m : ℕ) → ltb d (2 ^ 31) ≡ b → lt_z (cond b (pos d) (negsuc m)) (pos 0) ≡ leb (2 ^ 31) d
below true d m e = le-ltb d 0 (omega arith) ∙ sym (lt-leb (2 ^ 31) d (ltb-true d (2 ^ 31) e))
below false d m e = sym (le-leb (2 ^ 31) d (ltb-false d (2 ^ 31) e))

-- Number s is older than t if it lies ahead of t by half the circle or more.
pub older_by : (s t : SequenceNumber) → older s t ≡ leb (2 ^ 31) (wrapped s.0 t.0)
unfolding older
older_by s t = below (ltb (wrapped s.0 t.0) (2 ^ 31)) (wrapped s.0 t.0) _ refl

-- ---- by the distance d that a wrapping subtraction gave

module _ (s t : SequenceNumber) (d : ℕ) (hd : d < 2 ^ 32) (ht : t.0 < 2 ^ 32) (e : (d + t.0) % 2 ^ 32 ≡ s.0) where
  pub newer_at : (ltb 0 d && ltb d 2147483648) ≡ newer s t
  newer_at = rw (wraps d s.0 t.0 hd ht e) (sym (newer_by s t))

  pub older_at : leb 2147483648 d ≡ older s t
  older_at = rw (wraps d s.0 t.0 hd ht e) (sym (older_by s t))

-- ---- inside a window of 2^31 consecutive numbers

-- Returns the number k steps after base.
abbrev pub after : ℕ → ℕ → SequenceNumber
after base k = record { 0 = (base + k) % 2 ^ 32 }

module _ (base k j : ℕ) (hk : k < 2 ^ 31) (hj : j < 2 ^ 31) where
  distance : wrapped (after base k).0 (after base j).0 ≡ (k + 2 ^ 32 - j) % 2 ^ 32
  unfolding wrapped
  distance = omega arith

  -- Inside the window, the newer number is the one with the larger offset.
  pub newer_in_window : newer (after base k) (after base j) ≡ ltb j k
  newer_in_window = newer_by (after base k) (after base j) ∙ by (wrapped (after base k).0 (after base j).0) distance (ltb j k) refl
    where
      by : (d : ℕ) → d ≡ (k + 2 ^ 32 - j) % 2 ^ 32 → (b : Bool) → ltb j k ≡ b → (ltb 0 d && ltb d (2 ^ 31)) ≡ b
      by d e true h = let l = ltb-true j k h in rw (lt-ltb 0 d (omega arith), lt-ltb d (2 ^ 31) (omega arith))
      by d e false h = at (ltb 0 d) refl
        where
          at : (c : Bool) → ltb 0 d ≡ c → (ltb 0 d && ltb d (2 ^ 31)) ≡ false
          at true g = let l = ltb-true 0 d g in let m = ltb-false j k h in rw (g, le-ltb d (2 ^ 31) (omega arith))
          at false g = rw g

  -- Inside the window, the older number is the one with the smaller offset.
  pub older_in_window : older (after base k) (after base j) ≡ ltb k j
  older_in_window = older_by (after base k) (after base j) ∙ by (wrapped (after base k).0 (after base j).0) distance (ltb k j) refl
    where
      by : (d : ℕ) → d ≡ (k + 2 ^ 32 - j) % 2 ^ 32 → (b : Bool) → ltb k j ≡ b → leb (2 ^ 31) d ≡ b
      by d e true h = let l = ltb-true k j h in le-leb (2 ^ 31) d (omega arith)
      by d e false h = let l = ltb-false k j h in lt-leb (2 ^ 31) d (omega arith)
