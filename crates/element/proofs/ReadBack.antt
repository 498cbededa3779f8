-- Laws of reading back. A written element passes refusals 6, 7 and 8, and is read as the fields and the list that were written.
-- Conversely, octets that pass refusals 6, 7 and 8 are the octets that writing their fields gives.
use Prim.Native.Nat.{ℕ, ◌+◌, ◌<◌, ◌≤◌}
use mathlib.Core.Path.{◌≡◌, refl, sym, ap, ap₂, ◌∙◌}
use mathlib.Core.Bool.{true, false}
use mathlib.Core.List.{List, [], ◌∷◌, ◌++◌, append_assoc}
use lib.ListN.{length, get_or, take, drop, length-drop, take-append-drop, drop_of_length-le}
use lib.Seq.{drop_at, drop-cons, drop-drop}
use native.Mathlib.Omega.{arith}
use borrow.Author.Tests.{eq-eqb, le-ltb}
use Rattle.octets.specs.LittleEndian.{number_octets, fields_at, field_octets, total, Octets}
use Rattle.octets.proofs.Laws.{FitFields, fields_fit}
use Rattle.octets.proofs.OctetLists.{fields_read, fields_made, octets_nil, octets_cons, octets_append, octets_drop, octets_of_fields}
use Rattle.element.specs.declared.Kind.{Kind}
use Rattle.element.specs.declared.Kind.TheVariants.{Rann, Rreq, Rrep, Rerr}
use Rattle.element.specs.Element.{Element, rann, rreq, rrep, rerr, kind_of, count_of, field_numbers}
use Rattle.element.specs.Layout.{id_of, known, kind_with, length_with, count_ok, fits, field_widths}
use Rattle.element.specs.Entries.{All, lost_at, numbered_at, target_at}
use Rattle.element.specs.Octets.{kind_in, count_as, wrong_length, other_id, misfit, fields_as, list_as, list_part, element_as, read_as, read_element, count_part, fixed_octets, list_octets, write_element}
use Rattle.element.proofs.Lengths.{least_length, id_octet, length_octet, count_octet}
use Rattle.element.proofs.Scans.{each_length}
use Rattle.element.proofs.ListParts.{FitsTarget, FitsNumbered, FitsLost, target_lists, address_lists, loss_lists}
use Rattle.element.proofs.Sizes.{fixed_length, element_length}
use Rattle.element.proofs.Passing.{Passed, passed}

-- ---- elements that octets can hold

abbrev pub EntriesFit : Element → Type 0
EntriesFit (rann p) = Unit {0}
EntriesFit (rreq f targets) = All FitsTarget targets
EntriesFit (rrep f dependents) = All FitsNumbered dependents
EntriesFit (rerr f destinations) = All FitsLost destinations

-- States that the fields and the entries of an element fit their widths, and that the number of entries is allowed.
pub record Fits (e : Element) : Type 0 where
  pub fields : FitFields (field_widths (kind_of e)) (field_numbers e)
  pub entries : EntriesFit e
  pub count : count_ok (kind_of e) (count_of e) ≡ true

-- ---- the parts of a written element

list_there : (e : Element) → list_as (kind_of e) (write_element e) ≡ list_octets e
unfolding write_element
list_there e =
    drop_at (fixed_octets (kind_of e) (count_of e) (field_numbers e)) (list_octets e) (2 + length_with (kind_of e) 0) (fixed_length e (count_of e))

fields_there : (e : Element) → FitFields (field_widths (kind_of e)) (field_numbers e) → fields_as (kind_of e) (write_element e) ≡ field_numbers e
unfolding write_element fixed_octets
fields_there e f =
    let k : Kind = kind_of e in
    let regroup : (field_octets (field_widths k) (field_numbers e) ++ count_part k (count_of e)) ++ list_octets e
    ≡ field_octets (field_widths k) (field_numbers e) ++ (count_part k (count_of e) ++ list_octets e) =
    append_assoc (field_octets (field_widths k) (field_numbers e)) (count_part k (count_of e)) (list_octets e) in
    ap (λ (l : List ℕ). fields_at (field_widths k) (id_of k ∷ length_with k (count_of e) ∷ l) 2 0) regroup
    ∙ fields_read (field_widths k) (field_numbers e) (id_of k ∷ length_with k (count_of e) ∷ []) (count_part k (count_of e) ++ list_octets e) 2 0 refl f

-- With the octets of the fields unfolded, N computes.
count_there : (e : Element) → count_as (kind_of e) (write_element e) ≡ count_of e
unfolding write_element fixed_octets field_octets number_octets
count_there (rann p) = refl
count_there (rreq f targets) = refl
count_there (rrep f dependents) = refl
count_there (rerr f destinations) = refl

kind_there : (e : Element) → kind_in (write_element e) ≡ kind_of e
unfolding write_element fixed_octets kind_with
kind_there (rann p) = refl
kind_there (rreq f targets) = refl
kind_there (rrep f dependents) = refl
kind_there (rerr f destinations) = refl

-- ---- a written element is read back

made : (e : Element) → EntriesFit e → element_as (kind_of e) (field_numbers e) (count_of e) (list_octets e) ≡ e
made (rann p) f = refl
made (rreq g targets) f = ap (rreq g) (target_lists.read targets f)
made (rrep g dependents) f = ap (rrep g) (address_lists.read dependents f)
made (rerr g destinations) f = ap (rerr g) (loss_lists.read destinations f)

pub read_back : (e : Element) → Fits e → read_element (write_element e) ≡ e
unfolding read_element read_as
read_back e f =
    ap (λ (k : Kind). element_as k (fields_as k (write_element e)) (count_as k (write_element e)) (list_as k (write_element e))) (kind_there e)
    ∙ ap (λ (xs : List ℕ). element_as (kind_of e) xs (count_as (kind_of e) (write_element e)) (list_as (kind_of e) (write_element e))) (fields_there e f.fields)
    ∙ ap₂ (element_as (kind_of e) (field_numbers e)) (count_there e) (list_there e)
    ∙ made e f.entries

-- The list part of a written element is the octets of its entries.
pub part_back : (e : Element) → list_part (write_element e) ≡ list_octets e
unfolding list_part
part_back e = ap (λ (k : Kind). list_as k (write_element e)) (kind_there e) ∙ list_there e

-- ---- a written element passes refusals 6, 7 and 8

length_there : (e : Element) → get_or (write_element e) 1 0 ≡ length_with (kind_of e) (count_of e)
unfolding write_element fixed_octets
length_there e = refl

id_there : (e : Element) → get_or (write_element e) 0 0 ≡ id_of (kind_of e)
unfolding write_element fixed_octets
id_there e = refl

pub passes_6 : (e : Element) → wrong_length (write_element e) ≡ false
unfolding wrong_length
passes_6 e =
    let long : 2 ≤ length (write_element e) = omega (arith, element_length e) in
    let same : 2 + get_or (write_element e) 1 0 ≡ length (write_element e) = omega (arith, element_length e, length_there e) in
    rw (le-ltb (length (write_element e)) 2 long, eq-eqb (2 + get_or (write_element e) 1 0) (length (write_element e)) same) refl

id_known : (k : Kind) → known (id_of k) ≡ true
unfolding known
id_known Rann = refl
id_known Rreq = refl
id_known Rrep = refl
id_known Rerr = refl

pub passes_7 : (e : Element) → other_id (write_element e) ≡ false
unfolding other_id
passes_7 e = rw (id_there e, id_known (kind_of e)) refl

pub passes_8 : (e : Element) → count_ok (kind_of e) (count_of e) ≡ true → misfit (write_element e) ≡ false
unfolding misfit fits
passes_8 e h =
    rw (kind_there e, count_there e, length_there e, h, eq-eqb (length_with (kind_of e) (count_of e)) (length_with (kind_of e) (count_of e)) refl) refl

-- ---- every octet of a written element is below 256

list_octets_lem : (e : Element) → Octets (list_octets e)
list_octets_lem (rann p) = octets_nil
list_octets_lem (rreq f targets) = target_lists.octets targets
list_octets_lem (rrep f dependents) = address_lists.octets dependents
list_octets_lem (rerr f destinations) = loss_lists.octets destinations

count_octets : (k : Kind) (n : ℕ) → n < 256 → Octets (count_part k n)
count_octets Rann n l = octets_nil
count_octets Rreq n l = octets_cons n [] l octets_nil
count_octets Rrep n l = octets_cons n [] l octets_nil
count_octets Rerr n l = octets_cons n [] l octets_nil

pub octets_written : (e : Element) → count_ok (kind_of e) (count_of e) ≡ true → Octets (write_element e)
unfolding write_element fixed_octets
octets_written e h =
    let k : Kind = kind_of e in
    let n : ℕ = count_of e in
    let fields : List ℕ = field_octets (field_widths k) (field_numbers e) in
    octets_cons (id_of k) (length_with k n ∷ (fields ++ count_part k n) ++ list_octets e) (id_octet k)
    (octets_cons (length_with k n) ((fields ++ count_part k n) ++ list_octets e) (length_octet k n h)
    (octets_append (fields ++ count_part k n) (list_octets e)
    (octets_append fields (count_part k n) (octets_of_fields (field_widths k) (field_numbers e)) (count_octets k n (count_octet k n h)))
    (list_octets_lem e)))

-- ---- octets that pass refusals 6, 7 and 8 are the octets that writing their fields gives

-- The octets of an element are ID, Length, the fields, N and the list. After the fields come N and the list.
after_fields : (s : List ℕ) (k : Kind) → 2 + length_with k 0 ≤ length s → drop (2 + total (field_widths k)) s ≡ count_part k (count_as k s) ++ list_as k s
unfolding total
after_fields s Rann h = refl
after_fields s Rreq h = drop-cons s 27 0 h
after_fields s Rrep h = drop-cons s 33 0 h
after_fields s Rerr h = drop-cons s 3 0 h

parts : (s : List ℕ) (k : Kind) → 2 + length_with k 0 ≤ length s
    → s ≡ get_or s 0 0 ∷ get_or s 1 0 ∷ (take (total (field_widths k)) (drop 2 s) ++ count_part k (count_as k s)) ++ list_as k s
parts s k h =
    let m : ℕ = total (field_widths k) in
    let rest : drop 2 s ≡ (take m (drop 2 s) ++ count_part k (count_as k s)) ++ list_as k s =
    sym (take-append-drop m (drop 2 s)) ∙ ap (λ (l : List ℕ). take m (drop 2 s) ++ l) (drop-drop m 2 s ∙ after_fields s k h)
    ∙ sym (append_assoc (take m (drop 2 s)) (count_part k (count_as k s)) (list_as k s)) in
    drop-cons s 0 0 (omega arith) ∙ ap (λ (l : List ℕ). get_or s 0 0 ∷ l) (drop-cons s 1 0 (omega arith) ∙ ap (λ (l : List ℕ). get_or s 1 0 ∷ l) rest)

-- The parts of an element that was read.
kind_read : (k : Kind) (s : List ℕ) → kind_of (read_as k s) ≡ k
unfolding read_as
kind_read Rann s = refl
kind_read Rreq s = refl
kind_read Rrep s = refl
kind_read Rerr s = refl

count_read : (k : Kind) (s : List ℕ) → count_of (read_as k s) ≡ count_as k s
unfolding read_as
count_read Rann s = refl
count_read Rreq s = each_length (target_at (drop 28 s)) 0 (get_or s 27 0)
count_read Rrep s = each_length (numbered_at (drop 34 s)) 0 (get_or s 33 0)
count_read Rerr s = each_length (lost_at (drop 4 s)) 0 (get_or s 3 0)

numbers_read : (k : Kind) (s : List ℕ) → field_numbers (read_as k s) ≡ fields_as k s
unfolding read_as fields_at
numbers_read Rann s = refl
numbers_read Rreq s = refl
numbers_read Rrep s = refl
numbers_read Rerr s = refl

list_read : (k : Kind) (s : List ℕ) → Octets s → length s ≡ 2 + length_with k (count_as k s) → list_octets (read_as k s) ≡ list_as k s
unfolding read_as
list_read Rann s o e = let end : length s ≤ 23 = omega arith in sym (drop_of_length-le s end)
list_read Rreq s o e = target_lists.made (drop 28 s) (get_or s 27 0) (octets_drop 28 s o) (rw length-drop (omega arith))
list_read Rrep s o e = address_lists.made (drop 34 s) (get_or s 33 0) (octets_drop 34 s o) (rw length-drop (omega arith))
list_read Rerr s o e = loss_lists.made (drop 4 s) (get_or s 3 0) (octets_drop 4 s o) (rw length-drop (omega arith))

fields_room : (k : Kind) → 2 + 0 + total (field_widths k) ≤ 2 + length_with k 0
unfolding total
fields_room Rann = omega arith
fields_room Rreq = omega arith
fields_room Rrep = omega arith
fields_room Rerr = omega arith

written : (s : List ℕ) (k : Kind) → Octets s → Passed s k → write_element (read_as k s) ≡ s
unfolding write_element fixed_octets
written s k o p =
    let room : 2 + length_with k 0 ≤ length s = omega (arith, p.size, least_length k (count_as k s)) in
    let fields : field_octets (field_widths k) (fields_as k s) ≡ take (total (field_widths k)) (drop 2 s) =
    fields_made (field_widths k) s 2 0 o (omega (arith, fields_room k)) in
    rw (kind_read k s, count_read k s, numbers_read k s, list_read k s o p.size, fields, p.id, ← p.long) (sym (parts s k room))

pub write_back : (s : List ℕ) → Octets s → wrong_length s ≡ false → other_id s ≡ false → misfit s ≡ false → write_element (read_element s) ≡ s
unfolding read_element
write_back s o a b c = written s (kind_in s) o (passed s a b c)

-- ---- the fields of an element that was read fit their widths

entries_fit : (k : Kind) (s : List ℕ) → Octets s → EntriesFit (read_as k s)
unfolding read_as
entries_fit Rann s o = tt
entries_fit Rreq s o = target_lists.fit (drop 28 s) (get_or s 27 0) (octets_drop 28 s o)
entries_fit Rrep s o = address_lists.fit (drop 34 s) (get_or s 33 0) (octets_drop 34 s o)
entries_fit Rerr s o = loss_lists.fit (drop 4 s) (get_or s 3 0) (octets_drop 4 s o)

fit_as : (s : List ℕ) (k : Kind) → Octets s → Passed s k → Fits (read_as k s)
fit_as s k o p =
    record {
      fields = rw (kind_read k s, numbers_read k s) (fields_fit (field_widths k) s 2 0 o);
      entries = entries_fit k s o;
      count = rw (kind_read k s, count_read k s) p.count;
    }

pub read_fits : (s : List ℕ) → Octets s → wrong_length s ≡ false → other_id s ≡ false → misfit s ≡ false → Fits (read_element s)
unfolding read_element
read_fits s o a b c = fit_as s (kind_in s) o (passed s a b c)
