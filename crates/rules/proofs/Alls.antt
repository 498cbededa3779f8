-- How a property that holds for every entry of a list carries over the operations on lists.
use Rattle.rules.specs.Lists.{any, filter}
use Prim.Native.Nat.{ℕ, zero, suc, ◌+◌, ◌<◌, ◌≤◌}
use mathlib.Core.Path.{◌≡◌, refl, sym}
use mathlib.Core.Bool.{Bool, true, false, ◌||◌, cond}
use mathlib.Core.List.{List, [], ◌∷◌, ◌++◌, map, flat_map}
use lib.ListN.{length, take, drop, length-append}
use native.Mathlib.Omega.{arith}
use borrow.Author.Tests.{ne_eqb, eqb-false}
use Rattle.octets.proofs.Tests.{clash, neither}
use Rattle.layout.specs.declared.address.Address.{Address}
use Rattle.layout.specs.Address.{same}
use Rattle.element.specs.Entries.{each, All}
use Rattle.element.specs.Lists.{contains, has_duplicate}
use Rattle.rules.proofs.Branches.{cond_cases}

module _ {A : Type 0} (P : A → Type 0) where
  pub all_one : (x : A) → P x → All P (x ∷ [])
  unfolding All
  all_one x h = (h, tt)

  pub all_implies : (Q : A → Type 0) → ((x : A) → P x → Q x) → (l : List A) → All P l → All Q l
  unfolding All
  all_implies Q h [] k = tt
  all_implies Q h (x ∷ l) k = (h x k.0, all_implies Q h l k.1)

  pub all_append : (l l' : List A) → All P l → All P l' → All P (l ++ l')
  unfolding All
  all_append [] l' h h' = h'
  all_append (x ∷ l) l' h h' = (h.0, all_append l l' h.1 h')

  pub all_before : (l l' : List A) → All P (l ++ l') → All P l
  unfolding All
  all_before [] l' h = tt
  all_before (x ∷ l) l' h = (h.0, all_before l l' h.1)

  pub all_after : (l l' : List A) → All P (l ++ l') → All P l'
  unfolding All
  all_after [] l' h = h
  all_after (x ∷ l) l' h = all_after l l' h.1

  pub all_between : (f : ℕ → A) (i n : ℕ) → ((k : ℕ) → i ≤ k → k < i + n → P (f k)) → All P (each f i n)
  unfolding All each
  all_between f i zero h = tt
  all_between f i (suc n) h = (h i (omega arith) (omega arith), all_between f (suc i) n (λ k l m. h k (omega arith) (omega arith)))

  pub all_take : (n : ℕ) (l : List A) → All P l → All P (take n l)
  unfolding All
  all_take zero l h = tt
  all_take (suc n) [] h = tt
  all_take (suc n) (x ∷ l) h = (h.0, all_take n l h.1)

  pub all_drop : (n : ℕ) (l : List A) → All P l → All P (drop n l)
  unfolding All
  all_drop zero l h = h
  all_drop (suc n) [] h = tt
  all_drop (suc n) (x ∷ l) h = all_drop n l h.1

  pub all_filter : (p : A → Bool) (l : List A) → All P l → All P (filter p l)
  unfolding All
  all_filter p [] h = tt
  all_filter p (x ∷ l) h =
      let rest : All P (filter p l) = all_filter p l h.1 in
      cond_cases (All P) (p x) (λ _. (h.0, rest)) (λ _. rest)

module _ {A B : Type 0} (Q : B → Type 0) where
  pub all_map : (P : A → Type 0) (f : A → B) → ((x : A) → P x → Q (f x)) → (l : List A) → All P l → All Q (map f l)
  unfolding All
  all_map P f h [] k = tt
  all_map P f h (x ∷ l) k = (h x k.0, all_map P f h l k.1)

  pub all_flat_map : (P : A → Type 0) (f : A → List B) → ((x : A) → P x → All Q (f x)) → (l : List A) → All P l → All Q (flat_map f l)
  unfolding All flat_map
  all_flat_map P f h [] k = tt
  all_flat_map P f h (x ∷ l) k = all_append Q (f x) (flat_map f l) (h x k.0) (all_flat_map P f h l k.1)

-- ---- entries by their addresses

module _ {A : Type 0} (address : A → Address) where
  -- If a list does not name an address, none of its entries has the address.
  pub apart : (d : Address) (l : List A) → contains (map address l) d ≡ false → All (λ (x : A). same (address x) d ≡ false) l
  unfolding contains All
  apart d [] e = tt
  apart d (x ∷ l) e = let other = neither (same (address x) d) (contains (map address l) d) e in (other.0, apart d l other.1)

  -- If no address stands twice, the address of an entry stands neither before nor after the entry.
  pub apart_from : (before after : List A) (x : A) → has_duplicate (map address (before ++ x ∷ after)) ≡ false
      → All (λ (y : A). same (address y) (address x) ≡ false) before × All (λ (y : A). same (address y) (address x) ≡ false) after
  unfolding has_duplicate All
  apart_from [] after x e = (tt, apart (address x) after (neither (contains (map address after) (address x)) (has_duplicate (map address after)) e).0)
  apart_from (y ∷ before) after x e =
      let once = neither (contains (map address (before ++ x ∷ after)) (address y)) (has_duplicate (map address (before ++ x ∷ after))) e in
      let rest = apart_from before after x once.1 in
      let later = all_after (λ (z : A). same (address z) (address y) ≡ false) before (x ∷ after) (apart (address y) (before ++ x ∷ after) once.0) in
      ((ne_eqb (address y).0 (address x).0 (λ is. eqb-false (address x).0 (address y).0 later.0 (sym is)), rest.0), rest.1)

-- If each entry becomes at most one entry, the result has no more entries than the list.
pub flat_fewer : {A B : Type 0} (f : A → List B) → ((x : A) → length (f x) ≤ 1) → (l : List A) → length (flat_map f l) ≤ length l
unfolding flat_map
flat_fewer f one [] = omega arith
flat_fewer f one (x ∷ l) = omega (arith, length-append (f x) (flat_map f l), one x, flat_fewer f one l)

-- ---- which and how many entries pass a test

module _ {A : Type 0} (p : A → Bool) where
  pub any_fails : (l : List A) → All (λ (x : A). p x ≡ false) l → any p l ≡ false
  unfolding All
  any_fails [] h = refl
  any_fails (x ∷ l) h = rw h.0 (any_fails l h.1)

  pub each_fails : (l : List A) → any p l ≡ false → All (λ (x : A). p x ≡ false) l
  unfolding All
  each_fails [] e = tt
  each_fails (x ∷ l) e = let both = neither (p x) (any p l) e in (both.0, each_fails l both.1)

  pub filter_fewer : (l : List A) → length (filter p l) ≤ length l
  filter_fewer [] = omega arith
  filter_fewer (x ∷ l) =
      let rest = filter_fewer l in
      cond_cases (λ (k : List A). length k ≤ length (x ∷ l)) (p x) (λ _. omega arith) (λ _. omega arith)

  pub filter_some : (l : List A) → any p l ≡ true → 1 ≤ length (filter p l)
  filter_some [] e = clash cc
  filter_some (x ∷ l) e = by (p x) e (filter_some l)
    where
      by : (b : Bool) → (b || any p l) ≡ true → (any p l ≡ true → 1 ≤ length (filter p l)) → 1 ≤ length (cond b (x ∷ filter p l) (filter p l))
      by true e rest = omega arith
      by false e rest = rest e
