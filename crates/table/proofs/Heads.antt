-- Laws of a table after its head is put, and of a fresh table.
use Rattle.std.specs.Prelude.{Some, None, Option}
use Prim.Native.Nat.{ℕ, ◌+◌, ◌-◌, ◌^◌, ◌<◌, ◌≤◌}
use mathlib.Core.Path.{◌≡◌, refl, sym, ap, ◌∙◌}
use mathlib.Core.Bool.{Bool, true, false, and-false}
use mathlib.Core.List.{List}
use lib.ListN.{length, take, drop, get_or, length-replicate, length-drop, get_or-append}
use lib.Seq.{length-take-le, get_or-take, get_or-append-add, ext_get_or}
use lib.Dec.{ltb}
use borrow.Author.Tests.{ltb-true, ltb-false}
use mathlib.Core.Logic.{inr}
use native.Mathlib.Omega.{arith}
use borrow.Rule.Slice.PartMut.{mid_of, put_mid, same_len_mid}
use Rattle.octets.specs.LittleEndian.{zeros, total, Octets}
use Rattle.octets.proofs.Laws.{FitFields, octet_zero, octet_apart, octet_inside, octets_zero}
use Rattle.counters.specs.declared.SequenceNumber.{SequenceNumber}
use Rattle.layout.specs.declared.address.Address.{Address}
use Rattle.layout.specs.declared.row.Head.{Head}
use Rattle.layout.specs.Address.{individual, same}
use Rattle.layout.specs.Row.{fresh_head, free_row, head_ok, is_free, row_ok}
use Rattle.layout.specs.Layout.{rows, all_zero, head_widths, head_numbers, head_at, put_head, row_at, head_octets}
use Rattle.table.specs.Table.{own, vacant, holds, find_row, row_in, row_for, free_rows, is_table, fresh}
use Rattle.layout.proofs.HeadAndRows.{FitHead, fit_head, length_head, head_same, row_stays, head_octets_lem, row_zero}
use Rattle.table.proofs.Places.{first_cong, first_nowhere, count_cong, count_all}
use Rattle.table.proofs.WellFormed.{Legal, legal_is, true_not_false}

-- ---- a head that is put

module _ (t : List ℕ) (h : Head) where
  same_vacant : (k : ℕ) → vacant (put_head t h) k ≡ vacant t k
  unfolding vacant
  same_vacant k = rw row_stays

  same_holds : (d : Address) (k : ℕ) → holds (put_head t h) d k ≡ holds t d k
  unfolding holds
  same_holds d k = rw (same_vacant k, row_stays)

  same_place : (d : Address) → find_row (put_head t h) d ≡ find_row t d
  unfolding find_row
  same_place d = rw length_head (first_cong (holds (put_head t h) d) (holds t d) (rows t) (λ k l. same_holds d k))

  -- Each destination keeps its row.
  pub head_found : (d : Address) → row_for (put_head t h) d ≡ row_for t d
  unfolding row_for
  head_found d = ap (row_in (put_head t h)) (same_place d) ∙ by (find_row t d)
    where
      by : (f : Option ℕ) → row_in (put_head t h) f ≡ row_in t f
      by None = refl
      by (Some k) = rw row_stays

  -- As many rows are free as before.
  pub head_free : free_rows (put_head t h) ≡ free_rows t
  unfolding free_rows
  head_free = rw length_head (count_cong (vacant (put_head t h)) (vacant t) (rows t) (λ k l. same_vacant k))

  -- A table stays a table under a legal head of the same point.
  pub head_legal : head_octets ≤ length t → FitHead h → head_ok h ≡ true → h.own ≡ own t → Legal t → Legal (put_head t h)
  head_legal long fit ok same_own legal =
      let is_h = head_same t h long fit in
      record {
        head = rw is_h ok;
        row = λ k l.
            ap (λ (a : Address). row_ok a (row_at (put_head t h) k)) (ap (λ (g : Head). g.own) is_h ∙ same_own)
            ∙ rw row_stays (legal.row k (rw length_head at l));
        once = λ d j k lj lk hj hk.
            legal.once d j k (rw length_head at lj) (rw length_head at lk) (sym (same_holds d j) ∙ hj) (sym (same_holds d k) ∙ hk);
      }

-- ---- a fresh table

-- Putting a head over any octets, and zeros after it, gives the same octets as putting the head over zeros.
module _ (t u y : List ℕ) (h : Head) (long : head_octets ≤ length t) (ue : u ≡ put_head t h) (ye : y ≡ zeros (length (mid_of 32 (length u - 32) u))) where
  same_length : length u ≡ length t
  same_length = ap length ue ∙ length_head t h

  head_part : length (take 32 u) ≡ 32
  head_part = length-take-le 32 u (omega (arith, same_length))

  rows_part : length y ≡ length (mid_of 32 (length u - 32) u)
  rows_part = ap length ye ∙ length-replicate {A = ℕ} _ 0

  rows_length : length y ≡ length u - 32
  rows_length = rows_part ∙ length-take-le (length u - 32) (drop 32 u) (rw length-drop (omega arith))

  whole : List ℕ
  whole = put_mid 32 (length u - 32) u y

  whole_length : length whole ≡ length (put_head (zeros (length t)) h)
  unfolding whole
  whole_length =
      same_len_mid 32 (length u - 32) u y rows_part ∙ same_length
      ∙ sym (length_head (zeros (length t)) h ∙ length-replicate {A = ℕ} _ 0)

  in_head : (k : ℕ) → k < 32 → get_or whole k 0 ≡ get_or (put_head (zeros (length t)) h) k 0
  unfolding whole put_head total
  in_head k l =
      get_or-append (take 32 u) _ 0 k (rw head_part l)
      ∙ get_or-take 32 u k 0 l
      ∙ ap (λ (v : List ℕ). get_or v k 0) ue
      ∙ octet_inside head_widths t (zeros (length t)) k 0 0 (head_numbers h) (sym (length-replicate {A = ℕ} _ 0)) refl (omega arith) (omega arith)
      (omega arith)

  in_rows : (k : ℕ) → 32 ≤ k → k < length u → get_or whole k 0 ≡ get_or (put_head (zeros (length t)) h) k 0
  unfolding whole put_head total
  in_rows k l g =
      let place_in : k ≡ length (take 32 u) + (k - 32) = omega (arith, head_part) in
      ap (λ (i : ℕ). get_or whole i 0) place_in
      ∙ get_or-append-add (take 32 u) _ (k - 32) 0
      ∙ get_or-append y _ 0 (k - 32) (omega (arith, rows_length))
      ∙ ap (λ (v : List ℕ). get_or v (k - 32) 0) ye
      ∙ octet_zero (length (mid_of 32 (length u - 32) u)) (k - 32)
      ∙ sym (octet_apart head_widths (zeros (length t)) k 0 0 (head_numbers h) (inr (omega arith)) ∙ octet_zero (length t) k)

  overwrite_zeros : put_mid 32 (length u - 32) u y ≡ put_head (zeros (length t)) h
  unfolding whole
  overwrite_zeros = ext_get_or 0 whole (put_head (zeros (length t)) h) whole_length (λ k l. by k l (ltb k 32) refl)
    where
      by : (k : ℕ) → k < length whole → (b : Bool) → ltb k 32 ≡ b → get_or whole k 0 ≡ get_or (put_head (zeros (length t)) h) k 0
      by k l true e = in_head k (ltb-true k 32 e)
      by k l false e = in_rows k (ltb-false k 32 e) (omega (arith, same_len_mid 32 (length u - 32) u y rows_part))

pub fresh_written : (t u y : List ℕ) (h : Head) (a : Address) (s : SequenceNumber) → head_octets ≤ length t → h ≡ fresh_head a s → u ≡ put_head t h
    → y ≡ zeros (length (mid_of 32 (length u - 32) u)) → put_mid 32 (length u - 32) u y ≡ fresh (length t) a s
unfolding fresh
fresh_written t u y h a s long he ue ye = overwrite_zeros t u y h long ue ye ∙ ap (put_head (zeros (length t))) he

module _ (n : ℕ) (a : Address) (s : SequenceNumber) where
  pub fresh_length : length (fresh n a s) ≡ n
  unfolding fresh
  fresh_length = length_head (zeros n) (fresh_head a s) ∙ length-replicate n 0

  pub fresh_octets : Octets (fresh n a s)
  unfolding fresh
  fresh_octets = head_octets_lem (zeros n) (fresh_head a s) (octets_zero n)

  -- Every row is free.
  fresh_row : (k : ℕ) → row_at (fresh n a s) k ≡ free_row
  unfolding fresh
  fresh_row k = row_stays (zeros n) (fresh_head a s) k ∙ row_zero n k

  fresh_vacant : (k : ℕ) → vacant (fresh n a s) k ≡ true
  unfolding vacant
  fresh_vacant k = rw (fresh_row k)

  fresh_holds : (d : Address) (k : ℕ) → holds (fresh n a s) d k ≡ false
  unfolding holds
  fresh_holds d k = rw (fresh_vacant k) (and-false (same (row_at (fresh n a s) k).destination d))

  pub fresh_none : (d : Address) → row_for (fresh n a s) d ≡ None
  unfolding row_for find_row
  fresh_none d = rw (first_nowhere (holds (fresh n a s) d) (rows (fresh n a s)) (λ k l. fresh_holds d k))

  pub fresh_free : free_rows (fresh n a s) ≡ rows (fresh n a s)
  unfolding free_rows
  fresh_free = count_all (vacant (fresh n a s)) (rows (fresh n a s)) (λ k l. fresh_vacant k)

  module _ (long : 32 ≤ n) (a_fits : a.0 < 256 ^ 6) (s_fits : s.0 < 256 ^ 4) where
    pub fresh_head_lem : head_at (fresh n a s) ≡ fresh_head a s
    unfolding fresh FitFields
    fresh_head_lem = head_same (zeros n) (fresh_head a s) (rw length-replicate long) (fit_head (fresh_head a s) (omega arith))

    -- A fresh table passes refusal 21.
    pub fresh_legal : individual a ≡ true → Legal (fresh n a s)
    unfolding head_ok row_ok is_free all_zero
    fresh_legal one =
        record {
          head = rw (fresh_head_lem, one);
          row = λ k l. rw fresh_row;
          once = λ d j k lj lk hj hk. absurd (true_not_false hj (fresh_holds d j));
        }

    pub fresh_table : individual a ≡ true → is_table (fresh n a s) ≡ true
    fresh_table one = legal_is (fresh n a s) (fresh_legal one)
