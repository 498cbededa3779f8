-- Laws of the numbers of an element: the numbers of its fixed part, and then the numbers of its entries.
use Prim.Native.Nat.{ℕ, zero, suc, ◌/◌, ◌+◌, ◌≤◌}
use mathlib.Core.Path.{◌≡◌, refl, sym, ap, ap₂, ◌∙◌}
use mathlib.Core.List.{List, ◌++◌, append_assoc, flat_map}
use lib.ListN.{length, take, drop}
use lib.Seq.{drop-drop}
use borrow.Rule.Slice.PartMut.{put_mid}
use Rattle.std.proofs.lemmas.List.Edits.{sets-eq}
use native.Mathlib.Nat.{zero-add}
use Rattle.std.specs.Prelude.{Result, Ok, Err}
use Rattle.octets.specs.LittleEndian.{overwrite}
use Rattle.octets.proofs.OctetLists.{overwrite_append}
use Rattle.element.specs.declared.Kind.TheVariants.{Rann, Rreq, Rrep, Rerr}
use Rattle.element.specs.declared.PathInfo.{PathInfo}
use Rattle.element.specs.declared.RreqFields.{RreqFields}
use Rattle.element.specs.declared.RrepFields.{RrepFields}
use Rattle.element.specs.declared.RerrFields.{RerrFields}
use Rattle.refusals.specs.declared.Refusal.{Refusal}
use Rattle.refusals.specs.Numbers.{number_of}
use Rattle.reading.specs.declared.Fields.{Fields}
use Rattle.element.specs.Element.{Element, rann, rreq, rrep, rerr, kind_of, count_of, field_numbers, lost_numbers, numbered_numbers, rann_numbers, rerr_numbers, rrep_numbers, rreq_numbers, target_numbers}
use Rattle.element.specs.Entries.{each, lost_at, lost_in, numbered_at, numbered_in, target_at, targets_in}
use Rattle.element.specs.Octets.{fixed_numbers, read_element}
use Rattle.reading.specs.Reading.{reading}
use Rattle.element.proofs.Scans.{each_length}
use Rattle.probe.specs.Probes.{entry_numbers, element_numbers, read_numbers}

-- Copying values into the part of s from place `at` on is writing them there.
pub values_put : (s u p : List ℕ) (at n : ℕ) → at + length p ≤ length s → u ≡ p → n ≡ length p → put_mid at n s u ≡ overwrite s at p
unfolding overwrite
values_put s u p at n l e k =
    rw (e, k, drop-drop (length p) at s, ← append_assoc (take at s) p (drop (at + length p) s)) (sym (sets-eq p s at l))

-- Octets read as dependents of a RREP and as destinations of a RERR give the same numbers.
same_numbers : (part : List ℕ) (i n : ℕ) → flat_map numbered_numbers (each (numbered_at part) i n) ≡ flat_map lost_numbers (each (lost_at part) i n)
unfolding each flat_map numbered_at lost_at
same_numbers part i zero = refl
same_numbers part i (suc n) = rw (same_numbers part (suc i) n)

module _ (s t ys : List ℕ) (te : t ≡ overwrite s 0 ys) where
  -- The numbers of n entries, written after the numbers of the fixed part.
  numbers_put : (e : Element) (u : List ℕ) (n : ℕ) → n ≡ count_of e → ys ≡ fixed_numbers (kind_of e) n (field_numbers e)
      → u ≡ overwrite t (length (fixed_numbers (kind_of e) n (field_numbers e))) (entry_numbers e) → u ≡ overwrite s 0 (element_numbers e)
  unfolding element_numbers
  numbers_put e u n ne ye ue =
      let fixed : ℕ → List ℕ = λ m. fixed_numbers (kind_of e) m (field_numbers e) in
      ue ∙ ap₂ (λ (l : List ℕ) (k : ℕ). overwrite l k (entry_numbers e)) (te ∙ ap (overwrite s 0) ye) (sym (zero-add (length (fixed n))))
      ∙ sym (overwrite_append s 0 (fixed n) (entry_numbers e))
      ∙ ap (λ (m : ℕ). overwrite s 0 (fixed m ++ entry_numbers e)) ne

  pub rann_put : (p : PathInfo) → ys ≡ fixed_numbers Rann 0 (rann_numbers p) → t ≡ overwrite s 0 (element_numbers (rann p))
  unfolding overwrite
  rann_put p ye = numbers_put (rann p) t 0 refl ye refl

  module _ (u part : List ℕ) (n : ℕ) where
    pub rreq_put : (f : RreqFields) → n ≡ length part / 11 → ys ≡ fixed_numbers Rreq n (rreq_numbers f)
        → u ≡ overwrite t 11 (flat_map target_numbers (targets_in part)) → u ≡ overwrite s 0 (element_numbers (rreq f (targets_in part)))
    rreq_put f ne = numbers_put (rreq f (targets_in part)) u n (ne ∙ sym (each_length (target_at part) 0 (length part / 11)))

    pub rrep_put : (f : RrepFields) → n ≡ length part / 10 → ys ≡ fixed_numbers Rrep n (rrep_numbers f)
        → u ≡ overwrite t 12 (flat_map numbered_numbers (numbered_in part)) → u ≡ overwrite s 0 (element_numbers (rrep f (numbered_in part)))
    rrep_put f ne = numbers_put (rrep f (numbered_in part)) u n (ne ∙ sym (each_length (numbered_at part) 0 (length part / 10)))

    pub rerr_put : (f : RerrFields) → n ≡ length part / 10 → ys ≡ fixed_numbers Rerr n (rerr_numbers f)
        → u ≡ overwrite t 4 (flat_map numbered_numbers (numbered_in part)) → u ≡ overwrite s 0 (element_numbers (rerr f (lost_in part)))
    rerr_put f ne ye ue =
        numbers_put (rerr f (lost_in part)) u n (ne ∙ sym (each_length (lost_at part) 0 (length part / 10))) ye
        (ue ∙ ap (overwrite t 4) (same_numbers part 0 (length part / 10)))

-- ---- each result of the reader

module _ (s numbers : List ℕ) (r : Result Fields Refusal) (re : r ≡ reading s) where
  pub read_refused : (x : Refusal) → r ≡ Err x → record { answer = number_of x; memory = numbers } ≡ read_numbers s numbers
  unfolding read_numbers
  read_refused x e = rw (← re, e) refl

  pub read_element_lem : (f : Fields) → r ≡ Ok f → (e : Element) (u : List ℕ) → u ≡ overwrite numbers 0 (element_numbers e) → read_element s ≡ e
      → record { answer = 0; memory = u } ≡ read_numbers s numbers
  unfolding read_numbers
  read_element_lem f fe e u ue ee = rw (ue, ← re, fe, ee)
