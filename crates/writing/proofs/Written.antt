-- Laws of what the writers write: the start of a frame as one run of fields, and the list after it.
use Prim.Native.Nat.{ℕ, ◌+◌, ◌-◌, ◌/◌, ◌<◌, ◌≤◌}
use mathlib.Core.Path.{◌≡◌, refl, sym, ap, ap₂, ◌∙◌}
use mathlib.Core.List.{List, [], ◌∷◌, ◌++◌, append-nil, append_assoc, flat_map}
use lib.ListN.{length}
use native.Mathlib.Omega.{arith}
use native.Mathlib.Nat.{add-zero, sub-zero}
use Rattle.octets.specs.LittleEndian.{number_octets, overwrite, with_number, field_octets, with_fields, total, Octets}
use Rattle.octets.proofs.OctetLists.{overwrite_append, overwrite_before, length_number_octets, length_field_octets, octet_itself, field_octets_cons, field_octets_append, fields_overwrite}
use Rattle.layout.specs.declared.address.Address.{Address}
use Rattle.element.specs.declared.Kind.{Kind}
use Rattle.element.specs.declared.Kind.TheVariants.{Rann, Rreq, Rrep, Rerr}
use Rattle.element.specs.declared.PathInfo.{PathInfo}
use Rattle.element.specs.declared.LostDestination.{LostDestination}
use Rattle.element.specs.declared.Target.{Target}
use Rattle.element.specs.declared.RreqFields.{RreqFields}
use Rattle.element.specs.declared.RrepFields.{RrepFields}
use Rattle.element.specs.declared.RerrFields.{RerrFields}
use Rattle.element.specs.Element.{Element, rann, rreq, rrep, rerr, kind_of, count_of, rann_numbers, rreq_numbers, rrep_numbers, rerr_numbers, field_numbers, lost_numbers, target_numbers}
use Rattle.element.specs.Layout.{id_of, length_with, field_widths, lost_widths, target_widths, PartOf}
use Rattle.element.specs.Entries.{each, lost_at, lost_in, lost_octets, numbered_at, numbered_in, target_at, target_octets, targets_in}
use Rattle.element.specs.Octets.{count_part, fixed_numbers, fixed_octets, list_octets, write_element, frame_start, write_frame}
use Rattle.element.proofs.Lengths.{id_octet}
use Rattle.element.proofs.Sizes.{start_length}
use Rattle.element.proofs.Scans.{each_length, each_next, each_end}
use Rattle.element.proofs.ListParts.{target_lists, address_lists}

-- ---- the start of a frame as one run of fields

abbrev count_widths : Kind → List ℕ
count_widths Rann = []
count_widths Rreq = 1 ∷ []
count_widths Rrep = 1 ∷ []
count_widths Rerr = 1 ∷ []

count_itself : (k : Kind) (n : ℕ) → n < 256 → field_octets (count_widths k) (count_part k n) ≡ count_part k n
unfolding field_octets
count_itself Rann n l = refl
count_itself Rreq n l = rw (octet_itself n l)
count_itself Rrep n l = rw (octet_itself n l)
count_itself Rerr n l = rw (octet_itself n l)

-- The receiver address and then the fields up to the list, written without a gap.
pub frame_started : (to : Address) (s t u ws xs : List ℕ) (at : ℕ) → t ≡ with_number 6 s at to.0 → u ≡ with_fields ws t (at + 6) 0 xs
    → u ≡ overwrite s at (number_octets 6 to.0 ++ field_octets ws xs)
unfolding with_number
frame_started to s t u ws xs at te ue =
    let place : at + 6 + 0 ≡ at + length (number_octets 6 to.0) = omega (arith, length_number_octets 6 to.0) in
    ue ∙ fields_overwrite ws t (at + 6) 0 xs ∙ ap₂ (λ (l : List ℕ) (k : ℕ). overwrite l k (field_octets ws xs)) te place
    ∙ sym (overwrite_append s at (number_octets 6 to.0) (field_octets ws xs))

module _ (to : Address) (k : Kind) (n : ℕ) (xs : List ℕ) (as_many : length (field_widths k) ≡ length xs) (small : n < 256) (fits : length_with k n < 256) where
  start_octets : field_octets (1 ∷ 1 ∷ field_widths k ++ count_widths k) (fixed_numbers k n xs) ≡ fixed_octets k n xs
  unfolding fixed_octets
  start_octets =
      let rest : field_octets (field_widths k ++ count_widths k) (xs ++ count_part k n) ≡ field_octets (field_widths k) xs ++ count_part k n =
      field_octets_append (field_widths k) (count_widths k) xs (count_part k n) as_many ∙ ap (λ (l : List ℕ). field_octets (field_widths k) xs ++ l) (count_itself k n small) in
      rw (field_octets_cons, field_octets_cons, octet_itself (id_of k) (id_octet k), octet_itself (length_with k n) fits, rest)

  -- The receiver address and the numbers up to the list, when written, are the start of a frame.
  started : (s t ys : List ℕ) (at : ℕ) → ys ≡ fixed_numbers k n xs
      → t ≡ overwrite s at (number_octets 6 to.0 ++ field_octets (1 ∷ 1 ∷ field_widths k ++ count_widths k) ys) → t ≡ overwrite s at (frame_start to k n xs)
  started s t ys at ye te =
      te ∙ ap (λ (l : List ℕ). overwrite s at (number_octets 6 to.0 ++ l)) (ap (field_octets (1 ∷ 1 ∷ field_widths k ++ count_widths k)) ye ∙ start_octets)

-- A frame is its start and then its list.
pub frame_parts : (to : Address) (e : Element) → write_frame to e ≡ frame_start to (kind_of e) (count_of e) (field_numbers e) ++ list_octets e
unfolding write_frame write_element
frame_parts to e = sym (append_assoc (number_octets 6 to.0) (fixed_octets (kind_of e) (count_of e) (field_numbers e)) (list_octets e))

-- ---- the writers

module _ (to : Address) (s t ys : List ℕ) (at : ℕ) where
  pub rann_written : (p : PathInfo) → ys ≡ fixed_numbers Rann 0 (rann_numbers p)
      → t ≡ overwrite s at (number_octets 6 to.0 ++ field_octets (1 ∷ 1 ∷ 1 ∷ 1 ∷ 1 ∷ 6 ∷ 4 ∷ 4 ∷ 4 ∷ []) ys)
      → t ≡ overwrite s at (write_frame to (rann p))
  rann_written p ye te =
      started to Rann 0 (rann_numbers p) refl (omega arith) (omega arith) s t ys at ye te
      ∙ ap (overwrite s at) (sym (frame_parts to (rann p) ∙ append-nil (frame_start to Rann 0 (rann_numbers p))))

  pub rreq_started : (f : RreqFields) (n : ℕ) → n ≤ 20 → ys ≡ fixed_numbers Rreq n (rreq_numbers f)
      → t ≡ overwrite s at (number_octets 6 to.0 ++ field_octets (1 ∷ 1 ∷ 1 ∷ 1 ∷ 1 ∷ 4 ∷ 6 ∷ 4 ∷ 4 ∷ 4 ∷ 1 ∷ []) ys) → t ≡ overwrite s at (frame_start to Rreq n (rreq_numbers f))
  rreq_started f n l ye te = started to Rreq n (rreq_numbers f) refl (omega arith) (omega arith) s t ys at ye te

  pub rrep_started : (f : RrepFields) (n : ℕ) → n ≤ 22 → ys ≡ fixed_numbers Rrep n (rrep_numbers f)
      → t ≡ overwrite s at (number_octets 6 to.0 ++ field_octets (1 ∷ 1 ∷ 1 ∷ 1 ∷ 1 ∷ 6 ∷ 4 ∷ 4 ∷ 4 ∷ 6 ∷ 4 ∷ 1 ∷ []) ys) → t ≡ overwrite s at (frame_start to Rrep n (rrep_numbers f))
  rrep_started f n l ye te = started to Rrep n (rrep_numbers f) refl (omega arith) (omega arith) s t ys at ye te

  pub rerr_started : (f : RerrFields) (n : ℕ) → n ≤ 25 → ys ≡ fixed_numbers Rerr n (rerr_numbers f)
      → t ≡ overwrite s at (number_octets 6 to.0 ++ field_octets (1 ∷ 1 ∷ 1 ∷ 1 ∷ []) ys) → t ≡ overwrite s at (frame_start to Rerr n (rerr_numbers f))
  rerr_started f n l ye te = started to Rerr n (rerr_numbers f) refl (omega arith) (omega arith) s t ys at ye te

module _ (s t ys : List ℕ) (at : ℕ) where
  pub target_written : (x : Target) → ys ≡ target_numbers x → t ≡ with_fields target_widths s at 0 ys → t ≡ overwrite s at (target_octets x)
  unfolding target_octets
  target_written x ye te = rw (te, ye, fields_overwrite, add-zero at) refl

  pub lost_written : (x : LostDestination) → ys ≡ lost_numbers x → t ≡ with_fields lost_widths s at 0 ys → t ≡ overwrite s at (lost_octets x)
  unfolding lost_octets
  lost_written x ye te = rw (te, ye, fields_overwrite, add-zero at) refl

-- ---- a list after the start

module _ (to : Address) (s t u : List ℕ) (at at' : ℕ) where
  both_parts : (e : Element) (n : ℕ) → n ≡ count_of e
      → overwrite s at (frame_start to (kind_of e) n (field_numbers e) ++ list_octets e) ≡ overwrite s at (write_frame to e)
  both_parts e n ne =
      ap (λ (m : ℕ). overwrite s at (frame_start to (kind_of e) m (field_numbers e) ++ list_octets e)) ne ∙ ap (overwrite s at) (sym (frame_parts to e))

  list_place : (e : Element) (n : ℕ) → at' ≡ at + (8 + length_with (kind_of e) 0) → at' ≡ at + length (frame_start to (kind_of e) n (field_numbers e))
  list_place e n ae = ae ∙ ap (λ (k : ℕ). at + k) (sym (start_length to e n))

  -- The start of a frame, and then its list written after it, make the frame.
  pub finished : (e : Element) (n : ℕ) → n ≡ count_of e → t ≡ overwrite s at (frame_start to (kind_of e) n (field_numbers e)) → at' ≡ at + (8 + length_with (kind_of e) 0)
      → u ≡ overwrite t at' (list_octets e) → u ≡ overwrite s at (write_frame to e)
  finished e n ne te ae ue =
      ue ∙ ap₂ (λ (l : List ℕ) (k : ℕ). overwrite l k (list_octets e)) te (list_place e n ae)
      ∙ sym (overwrite_append s at (frame_start to (kind_of e) n (field_numbers e)) (list_octets e))
      ∙ both_parts e n ne

  -- The list of a frame, and then its start written before the list, make the frame.
  pub started_last : (e : Element) (n : ℕ) → n ≡ count_of e → at' ≡ at + (8 + length_with (kind_of e) 0) → t ≡ overwrite s at' (list_octets e)
      → u ≡ overwrite t at (frame_start to (kind_of e) n (field_numbers e)) → u ≡ overwrite s at (write_frame to e)
  started_last e n ne ae te ue =
      let start : List ℕ = frame_start to (kind_of e) n (field_numbers e) in
      ue ∙ ap (λ (l : List ℕ). overwrite l at start) (te ∙ ap (λ (k : ℕ). overwrite s k (list_octets e)) (list_place e n ae))
      ∙ overwrite_before s at start (list_octets e)
      ∙ both_parts e n ne

  module _ (part : List ℕ) (n : ℕ) where
    targets_counted : n ≡ length part / 11 → n ≡ length (targets_in part)
    targets_counted e = e ∙ sym (each_length (target_at part) 0 (length part / 11))

    addresses_counted : n ≡ length part / 10 → n ≡ length (numbered_in part)
    addresses_counted e = e ∙ sym (each_length (numbered_at part) 0 (length part / 10))

    losses_counted : n ≡ length part / 10 → n ≡ length (lost_in part)
    losses_counted e = e ∙ sym (each_length (lost_at part) 0 (length part / 10))

    module _ (f : RreqFields) (ne : n ≡ length part / 11) (te : t ≡ overwrite s at (frame_start to Rreq n (rreq_numbers f))) (ae : at' ≡ at + 34) where
      pub rreq_listed : u ≡ overwrite t at' (flat_map target_octets (targets_in part)) → u ≡ overwrite s at (write_frame to (rreq f (targets_in part)))
      rreq_listed = finished (rreq f (targets_in part)) n (targets_counted ne) te ae

      pub rreq_written : Octets part → PartOf Rreq part → u ≡ overwrite t at' part → u ≡ overwrite s at (write_frame to (rreq f (targets_in part)))
      rreq_written octets whole ue = rreq_listed (ue ∙ ap (overwrite t at') (sym (target_lists.made part (length part / 11) octets (omega arith))))

    pub rrep_written : (f : RrepFields) → n ≡ length part / 10 → t ≡ overwrite s at (frame_start to Rrep n (rrep_numbers f)) → at' ≡ at + 40
        → Octets part → PartOf Rrep part → u ≡ overwrite t at' part → u ≡ overwrite s at (write_frame to (rrep f (numbered_in part)))
    rrep_written f ne te ae octets whole ue =
        finished (rrep f (numbered_in part)) n (addresses_counted ne) te ae
        (ue ∙ ap (overwrite t at') (sym (address_lists.made part (length part / 10) octets (omega arith))))

    pub rerr_listed : (f : RerrFields) → n ≡ length part / 10 → t ≡ overwrite s at (frame_start to Rerr n (rerr_numbers f)) → at' ≡ at + 10
        → u ≡ overwrite t at' (flat_map lost_octets (lost_in part)) → u ≡ overwrite s at (write_frame to (rerr f (lost_in part)))
    rerr_listed f ne te ae = finished (rerr f (lost_in part)) n (losses_counted ne) te ae

-- ---- entries written one by one: g is the output when all entries are written

pub target_length : (x : Target) → length (target_octets x) ≡ 11
unfolding target_octets total
target_length x = length_field_octets target_widths (target_numbers x) refl

pub lost_length : (x : LostDestination) → length (lost_octets x) ≡ 10
unfolding lost_octets total
lost_length x = length_field_octets lost_widths (lost_numbers x) refl

module _ {A : Type 0} (write : A → List ℕ) (entry : ℕ → A) (n : ℕ) where
  pub entries_start : (s : List ℕ) (at : ℕ) → overwrite s at (flat_map write (each entry 0 (n - 0))) ≡ overwrite s at (flat_map write (each entry 0 n))
  entries_start s at = rw (sub-zero n) refl

  pub entries_more : (s t g : List ℕ) (i at at' : ℕ) → i < n → t ≡ overwrite s at (write (entry i)) → at' ≡ at + length (write (entry i))
      → overwrite s at (flat_map write (each entry i (n - i))) ≡ g → overwrite t at' (flat_map write (each entry (i + 1) (n - (i + 1)))) ≡ g
  unfolding flat_map
  entries_more s t g i at at' l te ae h =
      let rest : List ℕ = flat_map write (each entry (i + 1) (n - (i + 1))) in
      ap₂ (λ (u : List ℕ) (k : ℕ). overwrite u k rest) te ae
      ∙ sym (overwrite_append s at (write (entry i)) rest)
      ∙ ap (λ (m : List A). overwrite s at (flat_map write m)) (sym (each_next entry i n l))
      ∙ h

  pub entries_ended : (s g : List ℕ) (i at : ℕ) → n ≤ i → overwrite s at (flat_map write (each entry i (n - i))) ≡ g → s ≡ g
  unfolding flat_map overwrite
  entries_ended s g i at l h = ap (λ (m : List A). overwrite s at (flat_map write m)) (sym (each_end entry i n l)) ∙ h
