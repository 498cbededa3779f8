-- Laws of `first`, `count` and `every`. They say what a loop that tests the places below n in turn knows at place i, where b is
-- the result of the test. Each law has the form that the proof of a loop needs, so that `search` can apply it.
use Rattle.std.specs.Prelude.{Some, None, Option}
use Prim.Native.Nat.{ℕ, zero, suc, ◌+◌, ◌<◌, ◌≤◌}
use mathlib.Core.Path.{◌≡◌, refl, sym, ap, ◌∙◌}
use mathlib.Core.Bool.{Bool, true, false, ◌&&◌, cond, and-true, and-eq-true_iff}
use mathlib.Core.List.{List, [], ◌∷◌, ◌++◌}
use mathlib.Core.Logic.{⊎_elim}
use native.Mathlib.Nat.{eq-or-lt_of_le, le_of_suc-le-suc, not-suc-le-zero, le_antisymm}
use native.Mathlib.Numerals.{add-one}
use Rattle.std.proofs.Common.{add-zero, zero-add}
use Rattle.std.specs.List.{range_with_len, find, count_by, list_all}
use Rattle.std.specs.Option.{option_or}
use Rattle.std.proofs.lemmas.List.Folds.{find-append, list_all-append}
use Rattle.std.proofs.lemmas.List.Sums.{sum_by-append}
use native.Mathlib.Omega.{arith}
use Rattle.octets.proofs.Tests.{clash}
use Rattle.table.specs.Places.{first, count, every}

-- The numbers from a on, as many as n + 1, end with a + n.
range_more : (a n : ℕ) → range_with_len a (suc n) ≡ range_with_len a n ++ (a + n) ∷ []
range_more a zero = rw (add-zero a)
range_more a (suc n) = ap (λ (xs : List ℕ). a ∷ xs) (range_more (a + 1) n ∙ ap (λ (k : ℕ). range_with_len (a + 1) n ++ k ∷ []) (by a n))
  where
    by : (a n : ℕ) → (a + 1) + n ≡ a + suc n
    by a n = omega arith

-- The places below n + 1 are those below n, and n.
places_more : (n : ℕ) → range_with_len 0 (suc n) ≡ range_with_len 0 n ++ n ∷ []
places_more n = range_more 0 n ∙ ap (λ (k : ℕ). range_with_len 0 n ++ k ∷ []) (zero-add n)

-- A free row is one more, a held row is none.
pub counted_le : (i found next : ℕ) (b : Bool) → next ≡ found + cond b 1 0 → found ≤ i → next ≤ i + 1
counted_le i found next true e h = omega arith
counted_le i found next false e h = omega arith

module _ (p : ℕ → Bool) where
  first_suc : (n : ℕ) → first p (suc n) ≡ option_or (first p n) (cond (p n) (Some n) None)
  first_suc n = ap (find p) (places_more n) ∙ find-append p (range_with_len 0 n) (n ∷ [])

  count_suc : (n : ℕ) → count p (suc n) ≡ count p n + cond (p n) 1 0
  count_suc n = ap (count_by p) (places_more n) ∙ sum_by-append (λ k. cond (p k) 1 0) (range_with_len 0 n) (n ∷ [])
      ∙ ap (λ (k : ℕ). count p n + k) (zero-add (cond (p n) 1 0))

  pub count_more : (i found next : ℕ) (b : Bool) → b ≡ p i → found ≡ count p i → next ≡ found + cond b 1 0 → next ≡ count p (i + 1)
  count_more i found next b e h n = rw (add-one, count_suc i, ← h, ← e) n

  pub count_ended : (n i found : ℕ) → found ≡ count p i → i ≤ n → n ≤ i → found ≡ count p n
  count_ended n i found h l g = rw (le_antisymm g l) h

  every_suc : (n : ℕ) → every p (suc n) ≡ (every p n && p n)
  every_suc n = ap (list_all p) (places_more n) ∙ list_all-append p (range_with_len 0 n) (n ∷ []) ∙ ap (λ (b : Bool). list_all p (range_with_len 0 n) && b) (and-true (p n))

  pub first_none : first p 0 ≡ None
  first_none = refl

  pub first_more : (i : ℕ) (b : Bool) → b ≡ p i → b ≡ false → first p i ≡ None → first p (i + 1) ≡ None
  first_more i b e no-i none = rw (add-one, first_suc i, none, ← e, no-i)

  first_stays : (n i : ℕ) → Some i ≡ first p n → Some i ≡ first p (suc n)
  first_stays n i e = rw (first_suc n, ← e)

  pub first_here : (n i : ℕ) (b : Bool) → b ≡ p i → b ≡ true → first p i ≡ None → i < n → Some i ≡ first p n
  first_here zero i b e yes-i none h = absurd (not-suc-le-zero h)
  first_here (suc n) i b e yes-i none h =
      ⊎_elim
      (λ q. rw (first_suc n, ← q, none, ← e, yes-i))
      (λ l. first_stays n i (first_here n i b e yes-i none l))
      (eq-or-lt_of_le (le_of_suc-le-suc h))

  pub first_ended : (n i : ℕ) → first p i ≡ None → i ≤ n → n ≤ i → None ≡ first p n
  first_ended n i none h l = rw (le_antisymm l h, none)

  pub first_nowhere : (n : ℕ) → ((k : ℕ) → k < n → p k ≡ false) → first p n ≡ None
  first_nowhere zero h = refl
  first_nowhere (suc n) h = rw (first_suc n, first_nowhere n (λ k l. h k (omega arith)), h n (omega arith))

  pub first_below : (n i : ℕ) → first p n ≡ Some i → i < n
  first_below zero i e = clash cc
  first_below (suc n) i e = go (first p n) refl (p n) refl (sym (first_suc n) ∙ e) (first_below n i)
    where
      go : (f : Option ℕ) → first p n ≡ f → (b : Bool) → p n ≡ b → option_or (first p n) (cond (p n) (Some n) None) ≡ Some i → (first p n ≡ Some i → i < n) → i < suc n
      go (Some j) fe b be oe ih = let l = ih (cc) in omega arith
      go None fe true be oe ih = let q : n ≡ i = cc in omega arith
      go None fe false be oe ih = clash cc

  pub every_none : every p 0 ≡ true
  every_none = refl

  pub every_more : (i : ℕ) (b : Bool) → b ≡ p i → b ≡ true → every p i ≡ true → every p (i + 1) ≡ true
  every_more i b e yes-i all = rw (add-one, every_suc i, all, ← e, yes-i)

  pub every_stops : (n i : ℕ) (b : Bool) → b ≡ p i → b ≡ false → every p i ≡ true → i < n → false ≡ every p n
  every_stops zero i b e no-i all h = absurd (not-suc-le-zero h)
  every_stops (suc n) i b e no-i all h =
      ⊎_elim
      (λ q. rw (every_suc n, ← q, all, ← e, no-i))
      (λ l. rw (every_suc n, ← every_stops n i b e no-i all l))
      (eq-or-lt_of_le (le_of_suc-le-suc h))

  pub every_ended : (n i : ℕ) → every p i ≡ true → i ≤ n → n ≤ i → true ≡ every p n
  every_ended n i all h l = rw (le_antisymm l h, all)

  -- ---- what follows from `every`, `first` and `count`, and what they follow from
  pub every_at : (n k : ℕ) → every p n ≡ true → k < n → p k ≡ true
  every_at zero k e l = absurd (not-suc-le-zero l)
  every_at (suc n) k e l =
      let both = (and-eq-true_iff (every p n) (p n)).0 (sym (every_suc n) ∙ e) in
      ⊎_elim (λ q. rw q both.1) (λ h. every_at n k both.0 h) (eq-or-lt_of_le (le_of_suc-le-suc l))

  pub every_of : (n : ℕ) → ((k : ℕ) → k < n → p k ≡ true) → every p n ≡ true
  every_of zero h = refl
  every_of (suc n) h = rw (every_suc n, every_of n (λ k l. h k (omega arith)), h n (omega arith))

  pub first_not : (n k : ℕ) → first p n ≡ None → k < n → p k ≡ false
  first_not zero k e l = absurd (not-suc-le-zero l)
  first_not (suc n) k e l = go (first p n) refl (p n) refl (sym (first_suc n) ∙ e) (first_not n k)
    where
      go : (f : Option ℕ) → first p n ≡ f → (b : Bool) → p n ≡ b → option_or (first p n) (cond (p n) (Some n) None) ≡ None → (first p n ≡ None → k < n → p k ≡ false) → p k ≡ false
      go (Some j) fe b be oe ih = clash cc
      go None fe true be oe ih = clash cc
      go None fe false be oe ih = ⊎_elim (λ q. rw q be) (λ h. ih fe h) (eq-or-lt_of_le (le_of_suc-le-suc l))

  pub first_true : (n i : ℕ) → first p n ≡ Some i → p i ≡ true
  first_true zero i e = clash cc
  first_true (suc n) i e = go (first p n) refl (p n) refl (sym (first_suc n) ∙ e) (first_true n i)
    where
      go : (f : Option ℕ) → first p n ≡ f → (b : Bool) → p n ≡ b → option_or (first p n) (cond (p n) (Some n) None) ≡ Some i → (first p n ≡ Some i → p i ≡ true) → p i ≡ true
      go (Some j) fe b be oe ih = ih (cc)
      go None fe true be oe ih = let q : n ≡ i = cc in rw (← q) be
      go None fe false be oe ih = clash cc

  -- If only one place passes, it is the first.
  pub first_only : (n i : ℕ) → i < n → p i ≡ true → ((k : ℕ) → k < n → (k ≡ i → ⊥) → p k ≡ false) → first p n ≡ Some i
  first_only n i l e h =
      sym (first_here n i true (sym e) refl (first_nowhere i (λ k g. h k (omega arith) (λ q. omega arith))) l)

  -- If no place passes, the count is 0. If every place passes, the count is n.
  pub count_nowhere : (n : ℕ) → ((k : ℕ) → k < n → p k ≡ false) → count p n ≡ 0
  count_nowhere zero h = refl
  count_nowhere (suc n) h = rw (count_suc n, count_nowhere n (λ k l. h k (omega arith)), h n (omega arith))

  pub count_all : (n : ℕ) → ((k : ℕ) → k < n → p k ≡ true) → count p n ≡ n
  count_all zero h = refl
  count_all (suc n) h = rw (count_suc n, count_all n (λ k l. h k (omega arith)), h n (omega arith)) (omega arith)

-- Laws of two tests that agree below n.
module _ (p q : ℕ → Bool) where
  pub first_cong : (n : ℕ) → ((k : ℕ) → k < n → p k ≡ q k) → first p n ≡ first q n
  first_cong zero h = refl
  first_cong (suc n) h = rw (first_suc p n, first_suc q n, first_cong n (λ k l. h k (omega arith)), h n (omega arith))

  pub count_cong : (n : ℕ) → ((k : ℕ) → k < n → p k ≡ q k) → count p n ≡ count q n
  count_cong zero h = refl
  count_cong (suc n) h = rw (count_suc p n, count_suc q n, count_cong n (λ k l. h k (omega arith)), h n (omega arith))

  -- If two tests agree except at i, where only p passes, p counts one place more.
  pub count_drop : (n i : ℕ) → i < n → ((k : ℕ) → k < n → (k ≡ i → ⊥) → p k ≡ q k) → p i ≡ true → q i ≡ false → count p n ≡ suc (count q n)
  count_drop zero i l h yes-i no-i = absurd (not-suc-le-zero l)
  count_drop (suc n) i l h yes-i no-i =
      ⊎_elim
      (λ e. rw (count_suc p n, count_suc q n, rw e at yes-i, rw e at no-i, count_cong n (λ k g. h k (omega arith) (λ z. omega arith))) (omega arith))
      (λ g. rw (count_suc p n, count_suc q n, count_drop n i g (λ k m. h k (omega arith)) yes-i no-i, h n (omega arith) (λ z. omega arith)) (omega arith))
      (eq-or-lt_of_le (le_of_suc-le-suc l))
