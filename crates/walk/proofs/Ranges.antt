-- Laws that say in std's words what is asked of a list of entries by index. A search over a range of indices finds the same.
use Rattle.std.specs.List.{list_any, range_with_len}
use Prim.Native.Nat.{ℕ, zero, suc, ◌+◌, ◌-◌}
use mathlib.Core.Path.{◌≡◌, refl, sym, ap, ap₂, ◌∙◌}
use mathlib.Core.Bool.{Bool, ◌||◌}
use mathlib.Core.List.{List, [], ◌∷◌, map}
use native.Mathlib.Omega.{arith}
use native.Mathlib.Numerals.{add-one}
use Rattle.layout.specs.declared.address.Address.{Address}
use Rattle.element.specs.Entries.{each}
use Rattle.element.specs.Lists.{contains, has_duplicate}

any_map : {A : Type 0} (p : A → Bool) (f : ℕ → A) (l : List ℕ) → list_any p (map f l) ≡ list_any (λ k. p (f k)) l
any_map p f [] = refl
any_map p f (k ∷ l) = ap (λ (b : Bool). p (f k) || b) (any_map p f l)

module _ {A : Type 0} (f : ℕ → A) where
  -- The entries from i on are f at each index of a range.
  pub each_range : (i n : ℕ) → each f i n ≡ map f (range_with_len i n)
  unfolding each
  each_range i zero = refl
  each_range i (suc n) = ap (λ (l : List A). f i ∷ l) (ap (λ (k : ℕ). each f k n) (sym (add-one i)) ∙ each_range (i + 1) n)

  pub any_each : (p : A → Bool) (i n : ℕ) → list_any p (each f i n) ≡ list_any (λ k. p (f k)) (range_with_len i n)
  any_each p i n = ap (list_any p) (each_range i n) ∙ any_map p f (range_with_len i n)

module _ (f : ℕ → Address) where
  -- Some address stands twice if an address stands among those after it, where m is the index at which the list ends.
  pub duplicate_each : (i n m : ℕ) → i + n ≡ m
      → has_duplicate (each f i n) ≡ list_any (λ k. contains (each f (k + 1) (m - (k + 1))) (f k)) (range_with_len i n)
  unfolding each has_duplicate
  duplicate_each i zero m e = refl
  duplicate_each i (suc n) m e =
      let left : n ≡ m - (i + 1) = omega arith in
      let next : suc i ≡ i + 1 = omega arith in
      ap₂ (λ (a b : Bool). a || b)
      (ap₂ (λ (k l : ℕ). contains (each f k l) (f i)) next left)
      (ap (λ (k : ℕ). has_duplicate (each f k n)) next ∙ duplicate_each (i + 1) n m (omega arith))
