-- Laws of the octets of entries one after another. Entries are read back from their octets, and writing the entries read gives
-- the octets again. The laws are proved once for all kinds of entry.
use Prim.Native.Nat.{ℕ, zero, suc, ◌+◌, ◌*◌, ◌≤◌}
use mathlib.Core.Path.{◌≡◌, refl, sym, ap, ap₂, ◌∙◌}
use mathlib.Core.List.{List, [], ◌∷◌, ◌++◌, append_assoc, flat_map}
use lib.ListN.{length, take, drop, length-append, take-append-drop, drop_of_length-le}
use lib.Seq.{drop-drop}
use native.Mathlib.Omega.{arith}
use native.Mathlib.Nat.{zero-add, add-zero, add-suc, suc-add, mul-zero, mul-suc, mul-add}
use Rattle.octets.specs.LittleEndian.{fields_at, field_octets, total, Octets}
use Rattle.octets.proofs.Laws.{FitFields, fields_fit}
use Rattle.octets.proofs.OctetLists.{length_field_octets, fields_read, fields_made, octets_nil, octets_append, octets_of_fields}
use Rattle.element.specs.declared.LostDestination.{LostDestination}
use Rattle.element.specs.declared.NumberedAddress.{NumberedAddress}
use Rattle.element.specs.declared.Target.{Target}
use Rattle.element.specs.Element.{lost_numbers, numbered_numbers, target_numbers}
use Rattle.element.specs.Layout.{lost_widths, numbered_widths, target_widths}
use Rattle.element.specs.Entries.{each, All, lost_from, lost_at, lost_list, lost_octets, numbered_from, numbered_at, numbered_list, numbered_octets, target_from, target_at, target_list, target_octets}

-- If a property holds for the entry at every index, it holds for all entries.
pub all_each : {A : Type 0} (P : A → Type 0) (f : ℕ → A) → ((i : ℕ) → P (f i)) → (i n : ℕ) → All P (each f i n)
unfolding All each
all_each P f h i zero = tt
all_each P f h i (suc n) = (h i, all_each P f h (suc i) n)

-- The laws about the octets of a list of entries: how many octets there are (`long`); each is below 256 (`octets`); a written
-- list is read back (`read`); writing the list read gives the octets again (`made`); every entry read fits its octets (`fit`).
pub record ListLaws {A : Type 0} (size : ℕ) (Fit : A → Type 0) (write : A → List ℕ) (list : ℕ → List ℕ → List A) : Type 0 where
  pub long : (xs : List A) → length (flat_map write xs) ≡ size * length xs
  pub octets : (xs : List A) → Octets (flat_map write xs)
  pub read : (xs : List A) → All Fit xs → list (length xs) (flat_map write xs) ≡ xs
  pub made : (part : List ℕ) (n : ℕ) → Octets part → length part ≡ size * n → flat_map write (list n part) ≡ part
  pub fit : (part : List ℕ) (n : ℕ) → Octets part → All Fit (list n part)

module _ {A : Type 0} (size : ℕ) (ws : List ℕ) (from : List ℕ → A) (numbers : A → List ℕ)
    (wide : total ws ≡ size) (as_many : (x : A) → length ws ≡ length (numbers x)) where
  abbrev entry_at : List ℕ → ℕ → A
  entry_at part i = from (fields_at ws part (size * i) 0)

  abbrev entry_octets : A → List ℕ
  entry_octets x = field_octets ws (numbers x)

  entry_length : (x : A) → length (entry_octets x) ≡ size
  entry_length x = length_field_octets ws (numbers x) (as_many x) ∙ wide

  entries_length : (xs : List A) → length (flat_map entry_octets xs) ≡ size * length xs
  unfolding flat_map
  entries_length [] = sym (mul-zero size)
  entries_length (x ∷ xs) =
      let e = mul-suc size (length xs) in
      omega (arith, length-append (entry_octets x) (flat_map entry_octets xs), entry_length x, entries_length xs)

  entries_octets : (xs : List A) → Octets (flat_map entry_octets xs)
  unfolding flat_map
  entries_octets [] = octets_nil
  entries_octets (x ∷ xs) = octets_append (entry_octets x) (flat_map entry_octets xs) (octets_of_fields ws (numbers x)) (entries_octets xs)

  -- Entries that fit are read back. Here p is the octets of the entries before entry i, and xs is the entries from i on.
  module _ (back : (x : A) → from (numbers x) ≡ x) where
    entries_read : (p : List ℕ) (xs : List A) (i : ℕ) → length p ≡ size * i → All (λ x. FitFields ws (numbers x)) xs
        → each (entry_at (p ++ flat_map entry_octets xs)) i (length xs) ≡ xs
    unfolding each flat_map All
    entries_read p [] i e f = refl
    entries_read p (x ∷ xs) i e f =
        let regroup : p ++ (entry_octets x ++ flat_map entry_octets xs) ≡ (p ++ entry_octets x) ++ flat_map entry_octets xs = sym (append_assoc p (entry_octets x) (flat_map entry_octets xs)) in
        let place : size * i + 0 ≡ length p = omega arith in
        let next : length (p ++ entry_octets x) ≡ size * suc i = omega (arith, length-append p (entry_octets x), entry_length x, mul-suc size i) in
        ap₂ ◌∷◌
        (ap from (fields_read ws (numbers x) p (flat_map entry_octets xs) (size * i) 0 place f.0) ∙ back x)
        (ap (λ (l : List ℕ). each (entry_at l) (suc i) (length xs)) regroup ∙ entries_read (p ++ entry_octets x) xs (suc i) next f.1)

  -- Writing the entries read from octets gives the octets again, for n entries from entry i on.
  module _ (part : List ℕ) (octets : Octets part) (forth : (at : ℕ) → numbers (from (fields_at ws part at 0)) ≡ fields_at ws part at 0) where
    entries_made : (n i : ℕ) → length part ≡ size * (i + n) → flat_map entry_octets (each (entry_at part) i n) ≡ drop (size * i) part
    unfolding each flat_map
    entries_made zero i e =
        let end : length part ≤ size * i = omega (arith, ap (λ (k : ℕ). size * k) (add-zero i)) in
        sym (drop_of_length-le part end)
    entries_made (suc n) i e =
        let many : size * (i + suc n) ≡ size * i + size + size * n = ap (λ (k : ℕ). size * k) (add-suc i n ∙ sym (suc-add i n)) ∙ mul-add size (suc i) n ∙ ap (λ (k : ℕ). k + size * n) (mul-suc size i) in
        let first : entry_octets (entry_at part i) ≡ take size (drop (size * i) part) =
        ap (field_octets ws) (forth (size * i)) ∙ fields_made ws part (size * i) 0 octets (omega arith)
        ∙ ap₂ (λ (k m : ℕ). take k (drop m part)) wide (add-zero (size * i)) in
        let rest : flat_map entry_octets (each (entry_at part) (suc i) n) ≡ drop size (drop (size * i) part) =
        entries_made n (suc i) (e ∙ ap (λ (k : ℕ). size * k) (add-suc i n ∙ sym (suc-add i n)))
        ∙ ap (λ (k : ℕ). drop k part) (mul-suc size i) ∙ sym (drop-drop size (size * i) part) in
        ap₂ ◌++◌ first rest ∙ take-append-drop size (drop (size * i) part)

  list_laws : ((x : A) → from (numbers x) ≡ x) → ((part : List ℕ) (at : ℕ) → numbers (from (fields_at ws part at 0)) ≡ fields_at ws part at 0)
      → ListLaws size (λ x. FitFields ws (numbers x)) entry_octets (λ n part. each (entry_at part) 0 n)
  list_laws back forth =
      record {
        long = entries_length;
        octets = entries_octets;
        read = λ xs f. entries_read back [] xs 0 (sym (mul-zero size)) f;
        made = λ part n o e. entries_made part o (forth part) n 0 (rw zero-add e) ∙ ap (λ (k : ℕ). drop k part) (mul-zero size);
        fit = λ part n o. all_each (λ x. FitFields ws (numbers x)) (entry_at part) (λ i. rw forth (fields_fit ws part (size * i) 0 o)) 0 n;
      }

-- ---- kind by kind

abbrev pub FitsTarget : Target → Type 0
FitsTarget t = FitFields target_widths (target_numbers t)

abbrev pub FitsNumbered : NumberedAddress → Type 0
FitsNumbered a = FitFields numbered_widths (numbered_numbers a)

abbrev pub FitsLost : LostDestination → Type 0
FitsLost m = FitFields lost_widths (lost_numbers m)

pub target_lists : ListLaws 11 FitsTarget target_octets target_list
unfolding target_octets target_at fields_at total
target_lists = list_laws 11 target_widths target_from target_numbers refl (λ t. refl) (λ t. refl) (λ part at. refl)

pub address_lists : ListLaws 10 FitsNumbered numbered_octets numbered_list
unfolding numbered_octets numbered_at fields_at total
address_lists = list_laws 10 numbered_widths numbered_from numbered_numbers refl (λ a. refl) (λ a. refl) (λ part at. refl)

pub loss_lists : ListLaws 10 FitsLost lost_octets lost_list
unfolding lost_octets lost_at fields_at total
loss_lists = list_laws 10 lost_widths lost_from lost_numbers refl (λ m. refl) (λ m. refl) (λ part at. refl)
