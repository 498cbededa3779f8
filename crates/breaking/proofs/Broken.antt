-- Laws of a break, as the proofs of its functions need them: the rows that break, and the exit.
use Rattle.rules.specs.Decision.{Decision}
use Rattle.refusals.specs.declared.Refusal.{Refusal}
use Rattle.std.specs.Prelude.{Ok, ⊤, Err}
use Prim.Native.Nat.{ℕ, zero, suc, ◌+◌, ◌-◌, ◌<◌, ◌≤◌}
use mathlib.Core.Path.{◌≡◌, refl, sym, ap, ap₂, ◌∙◌}
use mathlib.Core.Bool.{Bool, true, false, not, cond}
use mathlib.Core.List.{List, [], ◌∷◌, ◌++◌, flat_map}
use lib.ListN.{length, length-append, take, drop}
use lib.Seq.{sets-eq}
use Rattle.std.proofs.lemmas.List.{append_assoc, drop-append-le, drop-drop, take-append-drop}
use borrow.Rule.Slice.PartMut.{mid_len, mid_of, put_mid}
use native.Mathlib.Nat.{zero-add, add-zero}
use native.Mathlib.Numerals.{add-one}
use native.Mathlib.Omega.{arith}
use borrow.Author.Tests.{eq-eqb, ne_eqb, not-true, not-false}
use Rattle.octets.specs.LittleEndian.{overwrite}
use Rattle.octets.proofs.OctetLists.{overwrite_append}
use Rattle.layout.specs.declared.address.Address.{Address}
use Rattle.layout.specs.declared.row.Head.{Head}
use Rattle.layout.specs.declared.row.Row.{Row}
use Rattle.layout.specs.Row.{head_with, invalidated, raised, is_through}
use Rattle.layout.specs.Layout.{head_at, put_head, rows, row_at, Sized, most_rows}
use Rattle.table.specs.Table.{change_at, change_below, change_where}
use Rattle.table.proofs.Changes.{row_stays, below_start, below_more, below_all}
use Rattle.counters.specs.declared.SequenceNumber.{SequenceNumber}
use Rattle.counters.specs.Numbers.{next_number}
use Rattle.element.specs.declared.LostDestination.{LostDestination}
use Rattle.element.specs.Entries.{each}
use Rattle.element.proofs.Scans.{each_length, each_next, each_end}
use Rattle.rules.specs.Errors.{broken, broken_entry, broken_entries, errors_taken, errors_for}
use Rattle.rules.specs.Exit.{lend, Exit, frame_octets, at_exit}
use Rattle.rules.specs.Break.{broken_off, breaking, break_neighbour}
use Rattle.rules.proofs.Room.{entry_one, entries_few}
use Rattle.calls.specs.declared.Emitted.{Emitted}
use Rattle.calls.specs.Answers.{answer_to, exit_of}
use Rattle.breaking.specs.Reports.{octets_for, begun_after, closed}
use Rattle.breaking.proofs.Reported.{begun_append, begun_length, closes, errors_many, errors_long}
use Rattle.rules.proofs.Rulings.{listed}
use Rattle.calls.proofs.Checks.{table_sized, output_long, refusal, acceptance, accepted_exit}
use Rattle.calls.proofs.Neighbours.{same_number}

-- ---- a row that breaks

module _ (r down : Row) (de : down ≡ invalidated r) where
  pub broken_unknown : (r.known ≡ 1 → ⊥) → down ≡ broken r
  unfolding broken
  broken_unknown k = rw (ne_eqb r.known 1 k) de

  pub broken_known : r.known ≡ 1 → (n : SequenceNumber) → n ≡ next_number r.number → (s : Row) → s ≡ raised n down → s ≡ broken r
  unfolding broken
  broken_known k n ne s se = rw (eq-eqb r.known 1 k, ← de, ← ne) se

-- ---- a row of the table that breaks if it passes the test

module _ (test : Row → Bool) (t : List ℕ) (i : ℕ) (r : Row) (re : r ≡ row_at t i) (b : Bool) (be : b ≡ test r) where
  tested : test (row_at t i) ≡ b
  tested = ap test (sym re) ∙ sym be

  module _ (stays : not b ≡ true) where
    none_lost : broken_entry test (row_at t i) ≡ []
    unfolding broken_entry
    none_lost = rw (tested ∙ not-true b stays)

    pub none_counted : (k : ℕ) → k ≡ k + length (broken_entry test (row_at t i))
    none_counted k = rw (none_lost, add-zero k)

    pub none_added : (k at : ℕ) (s : List ℕ) → s ≡ overwrite s at (begun_after k (broken_entry test (row_at t i)))
    unfolding begun_after overwrite
    none_added k at s = rw none_lost

  module _ (falls : not b ≡ false) (fallen : Row) (fe : fallen ≡ broken r) where
    one_lost : broken_entry test (row_at t i) ≡ record { address = r.destination; number = fallen.number } ∷ []
    unfolding broken_entry
    one_lost = rw (tested ∙ not-false b falls, ← re, ← fe)

    pub one_counted : (k n : ℕ) → n ≡ k + 1 → n ≡ k + length (broken_entry test (row_at t i))
    one_counted k n ne = rw one_lost ne

    pub one_added : (k at : ℕ) (s v : List ℕ) → v ≡ overwrite s at (begun_after k (record { address = r.destination; number = fallen.number } ∷ []))
        → v ≡ overwrite s at (begun_after k (broken_entry test (row_at t i)))
    one_added k at s v ve = ve ∙ ap (λ (l : List LostDestination). overwrite s at (begun_after k l)) (sym one_lost)

-- ---- the report, one row after another

-- `lost_from` returns the entries of the rows from i on, among the first n rows of t. `all_lost` returns the entries of all n
-- rows.
abbrev lost_from : (Row → Bool) → List ℕ → ℕ → ℕ → List LostDestination
lost_from test t n i = flat_map (broken_entry test) (each (row_at t) i (n - i))

abbrev all_lost : (Row → Bool) → List ℕ → ℕ → List LostDestination
all_lost test t n = flat_map (broken_entry test) (each (row_at t) 0 n)

-- States what stands in the output before row i of the first n rows of t, once `lost` destinations are reported. With what is left
-- to report, the count and the output make the whole.
module _ (test : Row → Bool) (t : List ℕ) (n : ℕ) (out₀ : List ℕ) where
  pub record Reporting (i lost : ℕ) (out : List ℕ) : Type 0 where
    pub below : i ≤ n
    pub few : lost ≤ i
    pub counted : lost + length (lost_from test t n i) ≡ length (all_lost test t n)
    pub written : overwrite out (octets_for lost) (begun_after lost (lost_from test t n i)) ≡ overwrite out₀ 0 (begun_after 0 (all_lost test t n))

  module _ (i lost : ℕ) (out : List ℕ) (stands : Reporting i lost out) where
    module _ (l : i < n) where
      pub reporting_more : (next : ℕ) → next ≡ lost + length (broken_entry test (row_at t i))
          → (out' : List ℕ) → out' ≡ overwrite out (octets_for lost) (begun_after lost (broken_entry test (row_at t i)))
          → Reporting (i + 1) next out'
      unfolding flat_map
      reporting_more next le out' oe =
          let entry : List LostDestination = broken_entry test (row_at t i) in
          let rest : List LostDestination = lost_from test t n (i + 1) in
          let left : lost_from test t n i ≡ entry ++ rest = ap (flat_map (broken_entry test)) (each_next (row_at t) i n l) in
          let pe : octets_for next ≡ octets_for lost + length (begun_after lost entry) = ap octets_for le ∙ sym (begun_length lost entry) in
          record {
            below = omega arith;
            few = omega (arith, stands.few, le, entry_one test (row_at t i));
            counted = omega (arith, stands.counted, le, ap length left, length-append entry rest);
            written =
                ap₂ (λ (u : List ℕ) (p : ℕ). overwrite u p (begun_after next rest)) oe pe
                ∙ sym (overwrite_append out (octets_for lost) (begun_after lost entry) (begun_after next rest))
                ∙ ap (λ (k : ℕ). overwrite out (octets_for lost) (begun_after lost entry ++ begun_after k rest)) le
                ∙ ap (overwrite out (octets_for lost)) (sym (begun_append lost entry rest))
                ∙ ap (λ (m : List LostDestination). overwrite out (octets_for lost) (begun_after lost m)) (sym left)
                ∙ stands.written;
          }

    module _ (l : n ≤ i) where
      none_left : lost_from test t n i ≡ []
      unfolding flat_map
      none_left = ap (flat_map (broken_entry test)) (each_end (row_at t) i n l)

      pub all_counted : lost ≡ length (all_lost test t n)
      all_counted = omega (arith, stands.counted, ap length none_left)

      pub all_written : out ≡ overwrite out₀ 0 (begun_after 0 (all_lost test t n))
      unfolding overwrite begun_after
      all_written =
          sym (ap (λ (m : List LostDestination). overwrite out (octets_for lost) (begun_after lost m)) none_left) ∙ stands.written

-- ---- all rows, and the RERRs closed

-- At most as many rows break as a table has.
pub lost_few : (test : Row → Bool) (t : List ℕ) → Sized t → (lost : ℕ) → lost ≡ length (broken_entries test t) → lost ≤ most_rows
unfolding broken_entries
lost_few test t l lost le = omega (arith, l.not_longer, le, entries_few test (each (row_at t) 0 (rows t)), each_length (row_at t) 0 (rows t))

module _ (test : Row → Bool) (t : List ℕ) (l : Sized t) (n : ℕ) (ne : n ≡ rows t) (lost : ℕ) (le : lost ≡ length (all_lost test t n)) where
  lost_are : all_lost test t n ≡ broken_entries test t
  unfolding broken_entries
  lost_are = ap (all_lost test t) ne

  pub lost_counted : lost ≡ length (broken_entries test t)
  lost_counted = le ∙ ap length lost_are

  pub lost_in_bounds : (output w : List ℕ) → octets_for most_rows ≤ length output → length w ≡ length output → octets_for lost ≤ length w
  lost_in_bounds output w room same_length = omega (arith, lost_few test t l lost lost_counted)

  pub errors_closed : (output w v : List ℕ) → w ≡ overwrite output 0 (begun_after 0 (all_lost test t n)) → v ≡ closed w 0 lost
      → v ≡ overwrite output 0 (frame_octets (errors_for (broken_entries test t)))
  errors_closed output w v we ve =
      let all : List LostDestination = all_lost test t n in
      ve ∙ ap₂ (λ (x : List ℕ) (k : ℕ). closed x 0 k) we le
      ∙ closes 6 all (omega (arith, le, lost_few test t l lost lost_counted)) output 0
      ∙ ap (λ (m : List LostDestination). overwrite output 0 (frame_octets (errors_for m))) lost_are

-- ---- the RERRs in a part of the output

-- What is written at the start of the part from place `at` on is written at place `at`.
part_written : (s x : List ℕ) (at : ℕ) → at + length x ≤ length s
    → put_mid at (length s - at) s (overwrite (mid_of at (length s - at) s) 0 x) ≡ overwrite s at x
unfolding overwrite
part_written s x at l =
    let k : ℕ = length s - at in
    let m : List ℕ = mid_of at k s in
    let n : ℕ = length x in
    let rest : List ℕ = drop k (drop at s) in
    let long : length m ≡ k = mid_len at (length s) s (omega arith) in
    let fits : 0 + n ≤ length m = omega (arith, l, long) in
    let front : overwrite m 0 x ≡ x ++ drop n m = sets-eq x m 0 fits ∙ ap (λ (j : ℕ). x ++ drop j m) (zero-add n) in
    ap (λ (z : List ℕ). take at s ++ (z ++ rest)) front
    ∙ ap (λ (z : List ℕ). take at s ++ z)
    (append_assoc x (drop n m) rest
    ∙ ap (λ (z : List ℕ). x ++ z)
    (sym (drop-append-le n m rest (omega (arith, l, long))) ∙ ap (drop n) (take-append-drop k (drop at s)) ∙ drop-drop n at s))
    ∙ sym (append_assoc (take at s) x (drop (at + n) s)) ∙ sym (sets-eq x s at l)

pub errors_placed : (test : Row → Bool) (t : List ℕ) → Sized t → (s : List ℕ) (at : ℕ) → at + octets_for most_rows ≤ length s → (out : List ℕ)
    → out ≡ overwrite (mid_of at (length s - at) s) 0 (frame_octets (errors_for (broken_entries test t)))
    → put_mid at (length s - at) s out ≡ overwrite s at (frame_octets (errors_for (broken_entries test t)))
errors_placed test t l s at room out oe =
    let entries : List LostDestination = broken_entries test t in
    let few : length entries ≤ most_rows = lost_few test t l (length entries) refl in
    let long : length (frame_octets (errors_for entries)) ≡ octets_for (length entries) = errors_long 6 entries (omega (arith, few)) in
    ap (put_mid at (length s - at) s) oe ∙ part_written s (frame_octets (errors_for entries)) at (omega (arith, few, long, room))

-- ---- if no row breaks, no row changes

module _ (test : Row → Bool) (t : List ℕ) where
  entry_none : (r : Row) → length (broken_entry test r) ≡ 0 → test r ≡ false
  unfolding broken_entry
  entry_none r = by (test r) (record { address = r.destination; number = (broken r).number })
    where
      by : (b : Bool) (x : LostDestination) → length (cond b (x ∷ []) []) ≡ 0 → b ≡ false
      by true x e = absurd (omega arith)
      by false x e = refl

  -- The first i rows and the n rows after them stay as they are.
  rows_stay : (i n : ℕ) → t ≡ change_below test broken i t → length (flat_map (broken_entry test) (each (row_at t) i n)) ≡ 0
      → t ≡ change_below test broken (i + n) t
  unfolding each flat_map
  rows_stay i zero so_far e = rw (add-zero i) so_far
  rows_stay i (suc n) so_far e =
      let entry : List LostDestination = broken_entry test (row_at t i) in
      let rest : List LostDestination = flat_map (broken_entry test) (each (row_at t) (suc i) n) in
      let here : length entry ≡ 0 = omega (arith, e, length-append entry rest) in
      let after : length rest ≡ 0 = omega (arith, e, length-append entry rest) in
      let stays : t ≡ change_at test broken i t = row_stays test broken t i (row_at t i) refl (entry_none (row_at t i) here) in
      let more : t ≡ change_below test broken (suc i) t =
      below_more test broken t t i so_far t stays ∙ ap (λ (k : ℕ). change_below test broken k t) (add-one i) in
      let next : suc i + n ≡ i + suc n = omega arith in
      rows_stay (suc i) n more after ∙ ap (λ (k : ℕ). change_below test broken k t) next

  pub none_changed : (lost : ℕ) → lost ≡ length (broken_entries test t) → lost ≡ 0 → t ≡ change_where test broken t
  unfolding broken_entries
  none_changed lost le z =
      let all : t ≡ change_below test broken (0 + rows t) t = rows_stay 0 (rows t) (below_start test broken t) (sym le ∙ z) in
      below_all test broken t t (0 + rows t) all (zero-add (rows t))

-- ---- the exit

pub broken_exit : (t output w u v : List ℕ) (c : ℕ) (test : Row → Bool) (h : Head) → h ≡ head_at t → Sized t
    → (lost : ℕ) → lost ≡ length (broken_entries test t)
    → w ≡ change_where test broken t → v ≡ overwrite output 0 (frame_octets (errors_for (broken_entries test t)))
    → u ≡ put_head w (head_with h.number h.request c h) → (e : Emitted) → e ≡ record { frames = errors_taken lost; octets = octets_for lost }
    → exit_of (Ok e) (lend u) v ≡ at_exit (lend t) output (Ok (broken_off (lend t) c test))
unfolding broken_off
broken_exit t output w u v c test h he l lost le we ve ue e ee =
    let entries : List LostDestination = broken_entries test t in
    let frames : errors_taken lost ≡ length (errors_for entries) = ap errors_taken le ∙ sym (errors_many entries) in
    let few : lost ≤ most_rows = lost_few test t l lost le in
    let octets : octets_for lost ≡ length (frame_octets (errors_for entries)) = ap octets_for le ∙ sym (errors_long 6 entries (omega (arith, le, few))) in
    accepted_exit (lend t) output (broken_off (lend t) c test) (lend u) v e
    (ap lend (same_number t c h he w (change_where test broken t) u we ue)) ve
    (ee ∙ ap₂ (λ (m n : ℕ). record { frames = m; octets = n }) frames octets)

-- ---- from the answer of the check

module _ (t output : List ℕ) (c : ℕ) (neighbour : Address) (a : Decision ⊤) (ae : a ≡ answer_to (breaking (lend t) (length output) c neighbour).checks) where
  module _ (done : ⊤) (ok : a ≡ Ok done) where
    pub break_table_sized : Sized t
    unfolding listed
    break_table_sized = table_sized t output _ a ae done ok

    pub break_output_long : 1560 ≤ length output
    unfolding listed
    break_output_long = output_long t output _ a ae done ok

  pub break_refused : (n : Refusal) → a ≡ Err n → exit_of (Err n) (lend t) output ≡ at_exit (lend t) output (break_neighbour (lend t) (length output) c neighbour)
  unfolding break_neighbour
  break_refused = refusal (lend t) output (breaking (lend t) (length output) c neighbour) a ae

  pub break_accepted : (done : ⊤) → a ≡ Ok done → (x : Exit) → x ≡ at_exit (lend t) output (Ok (broken_off (lend t) c (is_through c neighbour)))
      → x ≡ at_exit (lend t) output (break_neighbour (lend t) (length output) c neighbour)
  unfolding breaking break_neighbour
  break_accepted = acceptance (lend t) output (breaking (lend t) (length output) c neighbour) a ae
