-- Laws of the search by marks for an address that stands twice in a list. The search goes from the last entry down.
use Prim.Native.Nat.{ℕ, zero, suc, ◌+◌, ◌-◌, ◌<◌, ◌≤◌}
use mathlib.Core.Path.{◌≡◌, refl, sym, ap, ◌∙◌}
use mathlib.Core.Bool.{Bool, true, false, ◌&&◌, ◌||◌, or-true, true≢false}
use mathlib.Core.List.{List, ◌∷◌}
use lib.ListN.{length, get_or, set}
use native.Mathlib.Omega.{arith}
use borrow.Author.Tests.{ne_eqb}
use Rattle.layout.specs.declared.address.Address.{Address}
use Rattle.layout.specs.Marks.{mark}
use Rattle.layout.proofs.Marks.{Marked, marked_down, marked_none, unmarked}
use Rattle.element.specs.declared.list.ListKind.{ListKind}
use Rattle.element.specs.Entries.{each, entries_in}
use Rattle.element.specs.Lists.{address_in, addresses_from, addresses_in, contains, has_duplicate}
use Rattle.element.proofs.Scans.{each_next, each_end}

-- ---- any n addresses, by index

module _ (f : ℕ → Address) (n : ℕ) where
  -- If an address stands twice in the end of a list, it stands twice in the list.
  duplicate_within : (i : ℕ) → i ≤ n → has_duplicate (each f i (n - i)) ≡ true → has_duplicate (each f 0 (n - 0)) ≡ true
  unfolding has_duplicate
  duplicate_within zero l e = e
  duplicate_within (suc i) l e =
      duplicate_within i (omega arith)
      (ap has_duplicate (each_next f i n l) ∙ ap (λ b. contains (each f (i + 1) (n - (i + 1))) (f i) || b) later ∙ or-true (contains (each f (i + 1) (n - (i + 1))) (f i)))
    where
      later : has_duplicate (each f (i + 1) (n - (i + 1))) ≡ true
      later = let at : i + 1 ≡ suc i = omega arith in rw at e

  -- If an address differs from each address from index i on, the list from i on does not contain it.
  contains_none : (d : Address) (k i : ℕ) → n - i ≡ k → ((j : ℕ) → i ≤ j → j < n → (f j).0 ≡ d.0 → ⊥) → contains (each f i (n - i)) d ≡ false
  unfolding contains
  contains_none d zero i e apart = ap (λ (l : List Address). contains l d) (each_end f i n (omega (arith, e)))
  contains_none d (suc k) i e apart =
      let l : i < n = omega (arith, e) in
      ap (λ (l : List Address). contains l d) (each_next f i n l)
      ∙ ap (λ b. b || contains (each f (i + 1) (n - (i + 1))) d) (ne_eqb (f i).0 d.0 (apart i (omega arith) l))
      ∙ contains_none d k (i + 1) (omega (arith, e)) (λ j g h. apart j (omega (arith, g)) h)

-- ---- the loop: the entries from `from` on are marked, and the entry before them comes next

module _ (k : ListKind) (part : List ℕ) where
  pub no_duplicate : (n : ℕ) → n ≡ entries_in k part → has_duplicate (addresses_from k part n) ≡ false
  unfolding addresses_from has_duplicate
  no_duplicate n ne = ap has_duplicate (each_end (address_in k part) n (entries_in k part) (omega (arith, ne)))

  -- In a list with at most one entry no address stands twice.
  pub alone_once : (n : ℕ) → n ≡ entries_in k part → n ≤ 1 → false ≡ has_duplicate (addresses_in k part)
  unfolding addresses_from has_duplicate contains each
  alone_once n ne l = by (entries_in k part) (omega (arith, ne))
    where
      by : (m : ℕ) → m ≤ 1 → false ≡ has_duplicate (each (address_in k part) 0 (m - 0))
      by zero h = refl
      by (suc zero) h = refl
      by (suc (suc m)) h = absurd (omega (arith, h))

  pub none_marked : (n : ℕ) → n ≡ entries_in k part → (seen : List Bool) (last : ℕ) → Marked (address_in k part) seen last n (entries_in k part)
  none_marked n ne seen last = rw ne (marked_none (address_in k part) seen last (entries_in k part))

  module _ (from : ℕ) (some_left : 0 < from) (within : from ≤ entries_in k part) where
    pub before_within : from - 1 < entries_in k part
    before_within = omega arith

    module _ (a : Address) (ae : a ≡ address_in k part (from - 1)) where
      -- The entries from `from` - 1 on are the entry with the address a, and the entries from `from` on.
      with_before : addresses_from k part (from - 1) ≡ a ∷ addresses_from k part from
      unfolding addresses_from
      with_before =
          let at : from - 1 + 1 ≡ from = omega arith in
          each_next (address_in k part) (from - 1) (entries_in k part) before_within
          ∙ ap (λ (j : ℕ). address_in k part (from - 1) ∷ each (address_in k part) j (entries_in k part - j)) at
          ∙ ap (λ (b : Address). b ∷ each (address_in k part) from (entries_in k part - from)) (sym ae)

      pub again_found : (m b : Bool) → b ≡ (m && contains (addresses_from k part from) a) → b ≡ true
          → true ≡ has_duplicate (addresses_from k part 0)
      unfolding addresses_from has_duplicate
      again_found m b be yes_b =
          sym (duplicate_within (address_in k part) (entries_in k part) (from - 1) (omega (arith, within))
          (is_duplicate (contains (addresses_from k part from) a) m (sym be ∙ yes_b) refl))
        where
          is_duplicate : (g x : Bool) → (x && g) ≡ true → contains (addresses_from k part from) a ≡ g → has_duplicate (addresses_from k part (from - 1)) ≡ true
          is_duplicate g true e ge = ap has_duplicate with_before ∙ ap (λ c. c || has_duplicate (addresses_from k part from)) (ge ∙ e)
          is_duplicate g false e ge = absurd (true≢false (sym e))

      module _ (seen : List Bool) (last : ℕ) (marked : Marked (address_in k part) seen last from (entries_in k part)) (h : ℕ) (he : h ≡ mark last a) where
        pub before_marked : length seen ≡ last + 1 → Marked (address_in k part) (set seen h true) last (from - 1) (entries_in k part)
        before_marked le =
            marked_down (address_in k part) seen last from (entries_in k part) h le (from - 1) (omega arith) marked (he ∙ ap (mark last) ae)

        pub still_once : (b : Bool) → b ≡ (get_or seen h false && contains (addresses_from k part from) a) → b ≡ false
            → has_duplicate (addresses_from k part from) ≡ false → has_duplicate (addresses_from k part (from - 1)) ≡ false
        unfolding has_duplicate addresses_from
        still_once b be no_b once = ap has_duplicate with_before ∙ ap (λ c. c || has_duplicate (addresses_from k part from)) (by (get_or seen h false) refl) ∙ once
          where
            by : (x : Bool) → get_or seen h false ≡ x → contains (addresses_from k part from) a ≡ false
            by false e =
                contains_none (address_in k part) (entries_in k part) a (entries_in k part - from) from refl
                (unmarked (address_in k part) seen last from (entries_in k part) marked a h he e)
            by true e = sym (ap (λ x. x && contains (addresses_from k part from) a) e) ∙ sym be ∙ no_b
