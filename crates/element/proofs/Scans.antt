-- Laws of lists of entries by index, and of the loops that scan their addresses.
use Prim.Native.Nat.{ℕ, zero, suc, ◌+◌, ◌-◌, ◌*◌, ◌/◌, ◌<◌, ◌≤◌}
use mathlib.Core.Path.{◌≡◌, refl, sym, ap, ◌∙◌}
use mathlib.Core.Bool.{Bool, true, false, ◌&&◌, ◌||◌, not}
use mathlib.Core.List.{List, [], ◌∷◌, ◌++◌, append_assoc, flat_map, map}
use lib.Dec.{ltb}
use lib.ListN.{length}
use native.Mathlib.Omega.{arith}
use native.Mathlib.Nat.{sub-zero}
use native.Mathlib.Numerals.{add-one}
use Rattle.std.specs.List.{list_any, range_with_len}
use Rattle.octets.specs.LittleEndian.{number_at, fields_at}
use Rattle.layout.specs.declared.address.Address.{Address}
use Rattle.layout.specs.Address.{same}
use Rattle.element.specs.declared.list.ListKind.{ListKind}
use Rattle.element.specs.declared.list.ListKind.TheVariants.{Targets, Dependents, LostDestinations, Items}
use Rattle.element.specs.declared.LostDestination.{LostDestination}
use Rattle.element.specs.declared.Target.{Target}
use Rattle.element.specs.Entries.{each, entries_in, item_at, lost_at, lost_in, numbered_at, target_at, targets_in}
use Rattle.element.specs.Layout.{before_address, size_of}
use Rattle.element.specs.Lists.{address_in, addresses_from, addresses_in, all_ones, allowed, any_forbidden, contains, has_duplicate, ones_beside_others}

-- ---- entries one after another

module _ {A : Type 0} (f : ℕ → A) where
  pub each_length : (i n : ℕ) → length (each f i n) ≡ n
  unfolding each
  each_length i zero = refl
  each_length i (suc n) = ap suc (each_length (suc i) n)

  each_cons : (i n : ℕ) → each f i (suc n) ≡ f i ∷ each f (suc i) n
  unfolding each
  each_cons i n = refl

  each_none : (i : ℕ) → each f i 0 ≡ []
  unfolding each
  each_none i = refl

  -- The entries from i on are entry i and the entries after it.
  pub each_next : (i n : ℕ) → i < n → each f i (n - i) ≡ f i ∷ each f (i + 1) (n - (i + 1))
  each_next i n l =
      let more : n - i ≡ suc (n - (i + 1)) = omega arith in
      let next : suc i ≡ i + 1 = omega arith in
      ap (λ (m : ℕ). each f i m) more ∙ each_cons i (n - (i + 1)) ∙ ap (λ (m : ℕ). f i ∷ each f m (n - (i + 1))) next

  pub each_end : (i n : ℕ) → n ≤ i → each f i (n - i) ≡ []
  each_end i n l = let none : n - i ≡ 0 = omega arith in ap (λ (m : ℕ). each f i m) none ∙ each_none i

-- The octets of two lists joined are the octets of the first and then the octets of the second.
pub listed_append : {A : Type 0} (write : A → List ℕ) (k l : List A) → flat_map write (k ++ l) ≡ flat_map write k ++ flat_map write l
unfolding flat_map
listed_append write [] l = refl
listed_append write (x ∷ k) l =
    ap (λ (m : List ℕ). write x ++ m) (listed_append write k l) ∙ sym (append_assoc (write x) (flat_map write k) (flat_map write l))

pub map_each : {A B : Type 0} (g : A → B) (f : ℕ → A) (i n : ℕ) → map g (each f i n) ≡ each (λ (k : ℕ). g (f k)) i n
unfolding each
map_each g f i zero = refl
map_each g f i (suc n) = ap (λ (l : List _). g (f i) ∷ l) (map_each g f (suc i) n)

-- The addresses of a list part are the addresses of its entries.
pub target_addresses_lem : (part : List ℕ) → map (λ (t : Target). t.address) (targets_in part) ≡ addresses_in Targets part
unfolding addresses_from
target_addresses_lem part =
    map_each (λ (t : Target). t.address) (target_at part) 0 (length part / 11) ∙ ap (each (address_in Targets part) 0) (sym (sub-zero (length part / 11)))

-- A list part has as many addresses as entries.
pub addresses_many : (k : ListKind) (part : List ℕ) → length (addresses_in k part) ≡ entries_in k part
unfolding addresses_from
addresses_many k part = each_length (address_in k part) 0 (entries_in k part - 0) ∙ sub-zero (entries_in k part)

pub lost_addresses : (part : List ℕ) → map (λ (m : LostDestination). m.address) (lost_in part) ≡ addresses_in LostDestinations part
unfolding addresses_from
lost_addresses part =
    map_each (λ (m : LostDestination). m.address) (lost_at part) 0 (length part / 10)
    ∙ ap (each (address_in LostDestinations part) 0) (sym (sub-zero (length part / 10)))

-- ---- the address of an entry by its octets

-- The address of entry i, for any kind: an entry has z octets, and b of them stand before the address.
pub address_read : (part : List ℕ) (i : ℕ) (k : ListKind) (z b : ℕ) → z ≡ size_of k → b ≡ before_address k
    → (x : ℕ) → x ≡ number_at 6 part (z * i + b) → record { 0 = x } ≡ address_in k part i
unfolding target_at numbered_at lost_at item_at fields_at
address_read part i k z b ze be x e = by k (rw (← ze, ← be) e)
  where
    by : (j : ListKind) → x ≡ number_at 6 part (size_of j * i + before_address j) → record { 0 = x } ≡ address_in j part i
    by Targets h = rw h
    by Dependents h = rw h
    by LostDestinations h = rw h
    by Items h = rw h

-- ---- scans: F looks for an entry that, with the entries after it, passes the test p; g is the result of the whole scan

module _ {A : Type 0} (F : List A → Bool) (p : A → List A → Bool) (empty : F [] ≡ false)
    (more : (a : A) (rest : List A) → F (a ∷ rest) ≡ (p a rest || F rest)) (f : ℕ → A) (n i : ℕ) (g : Bool) where
  abbrev after : List A
  after = each f (i + 1) (n - (i + 1))

  scan_next : i < n → F (each f i (n - i)) ≡ (p (f i) after || F after)
  scan_next l = ap F (each_next f i n l) ∙ more (f i) after

  pub scan_found : i < n → p (f i) after ≡ true → F (each f i (n - i)) ≡ g → true ≡ g
  scan_found l yes-p e = sym (scan_next l ∙ ap (λ (b : Bool). b || F after) yes-p) ∙ e

  pub scan_more : i < n → p (f i) after ≡ false → F (each f i (n - i)) ≡ g → F after ≡ g
  scan_more l no-p e = sym (scan_next l ∙ ap (λ (b : Bool). b || F after) no-p) ∙ e

  pub scan_ended : n ≤ i → F (each f i (n - i)) ≡ g → false ≡ g
  scan_ended l e = sym empty ∙ ap F (sym (each_end f i n l)) ∙ e

-- Loops over any n addresses, at address i.
module _ (f : ℕ → Address) (n i : ℕ) (g : Bool) where
  module _ (l : i < n) (a : Address) (ae : a ≡ f i) where
    module _ (d : Address) where
      same_is : same a d ≡ same (f i) d
      same_is = ap (λ (c : Address). same c d) ae

      pub each_contains_found : (b : Bool) → b ≡ same a d → b ≡ true → contains (each f i (n - i)) d ≡ g → true ≡ g
      unfolding contains
      each_contains_found b be e = scan_found (λ (l : List Address). contains l d) (λ c rest. same c d) refl (λ c rest. refl) f n i g l (sym same_is ∙ sym be ∙ e)

      pub each_contains_more : (b : Bool) → b ≡ same a d → b ≡ false → contains (each f i (n - i)) d ≡ g → contains (each f (i + 1) (n - (i + 1))) d ≡ g
      unfolding contains
      each_contains_more b be e = scan_more (λ (l : List Address). contains l d) (λ c rest. same c d) refl (λ c rest. refl) f n i g l (sym same_is ∙ sym be ∙ e)

    module _ (b : Bool) (be : b ≡ contains (each f (i + 1) (n - (i + 1))) a) where
      again_is : b ≡ contains (each f (i + 1) (n - (i + 1))) (f i)
      again_is = be ∙ ap (λ (c : Address). contains (each f (i + 1) (n - (i + 1))) c) ae

      pub each_duplicate_found : b ≡ true → has_duplicate (each f i (n - i)) ≡ g → true ≡ g
      unfolding has_duplicate
      each_duplicate_found yes_b = scan_found has_duplicate (λ c rest. contains rest c) refl (λ c rest. refl) f n i g l (sym again_is ∙ yes_b)

      pub each_duplicate_more : b ≡ false → has_duplicate (each f i (n - i)) ≡ g → has_duplicate (each f (i + 1) (n - (i + 1))) ≡ g
      unfolding has_duplicate
      each_duplicate_more no_b = scan_more has_duplicate (λ c rest. contains rest c) refl (λ c rest. refl) f n i g l (sym again_is ∙ no_b)

  module _ (l : n ≤ i) where
    pub each_contains_ended : (d : Address) → contains (each f i (n - i)) d ≡ g → false ≡ g
    unfolding contains
    each_contains_ended d = scan_ended (λ (l : List Address). contains l d) (λ c rest. same c d) refl (λ c rest. refl) f n i g l

    pub each_duplicate_ended : has_duplicate (each f i (n - i)) ≡ g → false ≡ g
    unfolding has_duplicate
    each_duplicate_ended = scan_ended has_duplicate (λ c rest. contains rest c) refl (λ c rest. refl) f n i g l

-- Scans by std's `any` over the indexes from i on.
module _ (f : ℕ → Address) where
  any_contains : (d : Address) (i n : ℕ) → list_any (λ (j : ℕ). same (f j) d) (range_with_len i n) ≡ contains (each f i n) d
  unfolding contains each
  any_contains d i zero = refl
  any_contains d i (suc n) = ap (λ (b : Bool). same (f i) d || b) (rw add-one (any_contains d (suc i) n))

module _ (k : ListKind) (part : List ℕ) (n : ℕ) (ne : n ≡ entries_in k part) (i : ℕ) where
  pub contains_any : (d : Address) → list_any (λ (j : ℕ). same (address_in k part j) d) (range_with_len i (n - i)) ≡ contains (addresses_from k part i) d
  unfolding addresses_from
  contains_any d = rw ne (any_contains (address_in k part) d i (entries_in k part - i))

-- Loops over the n entries of a list part, at entry i, where g is the result of the whole scan.
module _ (k : ListKind) (part : List ℕ) (n : ℕ) (ne : n ≡ entries_in k part) (i : ℕ) (g : Bool) where
  module _ (l : i < n) where
    pub entry_there : i < entries_in k part
    entry_there = rw (← ne) l

    module _ (a : Address) (ae : a ≡ address_in k part i) where
      module _ (b : Bool) (be : b ≡ allowed k a) where
        allowed_is : b ≡ allowed k (address_in k part i)
        allowed_is = be ∙ ap (allowed k) ae

        pub forbidden_found : not b ≡ true → any_forbidden k (addresses_from k part i) ≡ g → true ≡ g
        unfolding addresses_from any_forbidden
        forbidden_found no_b =
            scan_found (any_forbidden k) (λ c rest. not (allowed k c)) refl (λ c rest. refl)
            (address_in k part) (entries_in k part) i g entry_there (ap not (sym allowed_is) ∙ no_b)

        pub forbidden_more : not b ≡ false → any_forbidden k (addresses_from k part i) ≡ g → any_forbidden k (addresses_from k part (i + 1)) ≡ g
        unfolding addresses_from any_forbidden
        forbidden_more yes_b =
            scan_more (any_forbidden k) (λ c rest. not (allowed k c)) refl (λ c rest. refl)
            (address_in k part) (entries_in k part) i g entry_there (ap not (sym allowed_is) ∙ yes_b)

  module _ (l : n ≤ i) where
    all_passed : entries_in k part ≤ i
    all_passed = rw (← ne) l

    pub forbidden_ended : any_forbidden k (addresses_from k part i) ≡ g → false ≡ g
    unfolding addresses_from any_forbidden
    forbidden_ended =
        scan_ended (any_forbidden k) (λ c rest. not (allowed k c)) refl (λ c rest. refl)
        (address_in k part) (entries_in k part) i g all_passed

module _ (k : ListKind) (part : List ℕ) where
  pub ones_beside : (b : Bool) (n : ℕ) → b ≡ contains (addresses_in k part) all_ones → n ≡ entries_in k part
      → (b && ltb 1 n) ≡ ones_beside_others (addresses_in k part)
  unfolding ones_beside_others addresses_from
  ones_beside b n be ne =
      let long : length (each (address_in k part) 0 (entries_in k part - 0)) ≡ n = each_length (address_in k part) 0 (entries_in k part - 0) ∙ sub-zero (entries_in k part) ∙ sym ne in
      cc
