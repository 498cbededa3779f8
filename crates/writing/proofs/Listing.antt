-- Laws of the kept entries of a list, written one after another. `Listing` says that writing what is kept of the rest gives the
-- whole list.
use Rattle.std.specs.Prelude.{Option, None, Some, filter_map}
use Rattle.std.specs.List.{cons_option}
use Rattle.std.specs.Option.{option_map_or}
use Prim.Native.Nat.{ℕ, ◌+◌, ◌-◌, ◌*◌, ◌<◌, ◌≤◌}
use mathlib.Core.Path.{◌≡◌, refl, sym, ap, ap₂, ◌∙◌}
use mathlib.Core.List.{List, [], ◌∷◌, ◌++◌, append-nil, flat_map}
use lib.ListN.{length, length-append}
use native.Mathlib.Omega.{arith}
use native.Mathlib.Nat.{sub-zero, mul-suc}
use native.Mathlib.Numerals.{add-one}
use Rattle.octets.specs.LittleEndian.{overwrite}
use Rattle.octets.proofs.OctetLists.{overwrite_append}
use Rattle.element.specs.Entries.{each}
use Rattle.element.proofs.Scans.{each_next, each_end}

-- ---- one entry

module _ {A : Type 0} (octets : A → List ℕ) where
  abbrev octets_if : Option A → List ℕ
  octets_if o = option_map_or octets o []

  -- An entry is not written.
  pub none_written : (o : Option A) → o ≡ None → (s : List ℕ) (at : ℕ) → s ≡ overwrite s at (octets_if o)
  unfolding overwrite
  none_written o e s at = rw e refl

  joined : (o : Option A) (xs : List A) → flat_map octets (cons_option o xs) ≡ octets_if o ++ flat_map octets xs
  unfolding flat_map
  joined None xs = refl
  joined (Some x) xs = refl

  module _ (size : ℕ) (long : (xs : List A) → length (flat_map octets xs) ≡ size * length xs) where
    one_long : (x : A) → length (octets x) ≡ size
    unfolding flat_map
    one_long x = omega (arith, long (x ∷ []), ap length (append-nil (octets x)))

    -- An entry is written.
    pub one_place : (o : Option A) (x : A) → o ≡ Some x → (at r : ℕ) → r ≡ at + size → r ≡ at + length (octets_if o)
    one_place o x e at r re = rw (e, one_long) re

    one_short : (o : Option A) → length (octets_if o) ≤ size
    one_short None = omega arith
    one_short (Some x) = omega (arith, one_long x)

    -- The place stays within the octets that the entries so far can have.
    pub place_bounded : (o : Option A) (at i place place' : ℕ) → place ≤ at + size * i → place' ≡ place + length (octets_if o)
        → place' ≤ at + size * (i + 1)
    place_bounded o at i place place' few pe =
        omega (arith, few, pe, one_short o, ap (λ (k : ℕ). size * k) (add-one i), mul-suc size i)

-- A caller that keeps each entry keeps the list.
pub all_are_kept : {A : Type 0} (xs : List A) → filter_map Some xs ≡ xs
all_are_kept [] = refl
all_are_kept (x ∷ xs) = ap (λ (l : List _). x ∷ l) (all_are_kept xs)

-- ---- one after another

-- There are n entries. What is kept of them is written to the output out₀ from the place `at` on.
module _ {A : Type 0} (octets : A → List ℕ) (entry : ℕ → A) (keep : A → Option A) (n : ℕ) (out₀ : List ℕ) (at : ℕ) where
  abbrev kept_from : ℕ → List A
  kept_from i = filter_map keep (each entry i (n - i))

  abbrev all_kept : List A
  all_kept = filter_map keep (each entry 0 n)

  pub record Listing (i place : ℕ) (out : List ℕ) : Type 0 where
    pub counted : place + length (flat_map octets (kept_from i)) ≡ at + length (flat_map octets all_kept)
    pub written : overwrite out place (flat_map octets (kept_from i)) ≡ overwrite out₀ at (flat_map octets all_kept)

  pub listing_start : Listing 0 at out₀
  listing_start = record { counted = rw (sub-zero n); written = rw (sub-zero n) }

  -- The octets of what is kept of the entries from i on, where o is what is kept of entry i.
  kept_next : (i : ℕ) → i < n → (o : Option A) → o ≡ keep (entry i)
      → flat_map octets (kept_from i) ≡ option_map_or octets o [] ++ flat_map octets (kept_from (i + 1))
  kept_next i l o oe =
      ap (λ (xs : List A). flat_map octets (filter_map keep xs)) (each_next entry i n l)
      ∙ ap (λ (p : Option A). flat_map octets (cons_option p (kept_from (i + 1)))) (sym oe)
      ∙ joined octets o (kept_from (i + 1))

  module _ (i place : ℕ) (out : List ℕ) (so_far : Listing i place out) where
    pub listing_more : i < n → (o : Option A) → o ≡ keep (entry i) → (place' : ℕ) → place' ≡ place + length (option_map_or octets o [])
        → (out' : List ℕ) → out' ≡ overwrite out place (option_map_or octets o []) → Listing (i + 1) place' out'
    listing_more l o oe place' pe out' ue =
        let this : List ℕ = option_map_or octets o [] in
        let rest : List ℕ = flat_map octets (kept_from (i + 1)) in
        let left : flat_map octets (kept_from i) ≡ this ++ rest = kept_next i l o oe in
        record {
          counted = omega (arith, so_far.counted, pe, ap length left, length-append this rest);
          written =
              ap₂ (λ (u : List ℕ) (k : ℕ). overwrite u k rest) ue pe
              ∙ sym (overwrite_append out place this rest)
              ∙ ap (overwrite out place) (sym left)
              ∙ so_far.written;
        }

    module _ (l : n ≤ i) where
      none_left : flat_map octets (kept_from i) ≡ []
      unfolding flat_map
      none_left = ap (λ (xs : List A). flat_map octets (filter_map keep xs)) (each_end entry i n l)

      pub listing_counted : (size : ℕ) → ((xs : List A) → length (flat_map octets xs) ≡ size * length xs) → place ≡ at + size * length all_kept
      listing_counted size long = omega (arith, so_far.counted, ap length none_left, long all_kept)

      pub listing_written : out ≡ overwrite out₀ at (flat_map octets all_kept)
      unfolding overwrite
      listing_written = sym (ap (overwrite out place) none_left) ∙ so_far.written
