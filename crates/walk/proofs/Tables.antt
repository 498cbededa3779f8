-- Laws of the tables side by side by their octets: where each table lies, that all have one length, and what the checks find.
use Rattle.std.specs.List.{list_any, range_with_len}
use Prim.Native.Nat.{ℕ, ◌+◌, ◌-◌, ◌*◌, ◌/◌, ◌%◌, ◌<◌, ◌≤◌}
use mathlib.Core.Path.{◌≡◌, refl, sym, ap, ◌∙◌}
use mathlib.Core.Bool.{Bool, true, false, not, ◌&&◌, ◌||◌}
use mathlib.Core.List.{List}
use lib.Dec.{eqb, leb, ltb}
use lib.ListN.{length, take, drop, length-take, length-drop}
use native.Mathlib.Omega.{arith}
use native.Mathlib.Nat.{sub-zero, mul-zero, mul-suc, mul_comm, mul-div_cancel_left, mul-le-mul_left, min-eq_left, div-le_self, mod-add-div}
use borrow.Author.Tests.{eq-eqb, ne_eqb, eqb-true, le-leb, lt-leb, leb-true, not-false}
use Rattle.octets.specs.LittleEndian.{number_at}
use Rattle.layout.specs.declared.address.Address.{Address}
use Rattle.layout.specs.Address.{address_of, same}
use Rattle.layout.specs.Layout.{head_octets, most_rows, place, sized, head_at, Sized}
use Rattle.table.specs.Table.{is_table}
use Rattle.octets.proofs.Tests.{both}
use Rattle.table.proofs.Cases.{of_size}
use Rattle.element.specs.Entries.{each}
use Rattle.element.specs.Lists.{contains, has_duplicate}
use Rattle.element.proofs.Scans.{each_end, each_next, map_each}
use Rattle.rules.specs.Lists.{any}
use Rattle.rules.specs.Walk.{table_at, tables_in, length_of_each, side_by_side, points, has_later_clock}
use Rattle.walk.specs.Pieces.{point_at}
use Rattle.walk.proofs.Ranges.{any_each, duplicate_each}

-- ---- one table

module _ (s : List ℕ) (long i : ℕ) where
  pub piece_is : (from : ℕ) → from ≡ long * i → take (from + long - from) (drop from s) ≡ table_at s long i
  unfolding table_at
  piece_is from e = let n : from + long - from ≡ long = omega arith in rw (n, e)

  pub piece_long : long * i + long ≤ length s → length (table_at s long i) ≡ long
  unfolding table_at
  piece_long l =
      length-take long (drop (long * i) s)
      ∙ min-eq_left (let n = length-drop (long * i) s in omega (arith, n))

-- ---- 1 to 16 tables of one length

module _ (s : List ℕ) (count : ℕ) where
  pub first_within : length_of_each s count * 0 + length_of_each s count ≤ length s
  first_within = omega (arith, mul-zero (length_of_each s count), div-le_self (length s) count)

  pub none_at_all : count < 1 → false ≡ side_by_side s count
  unfolding side_by_side
  none_at_all l = rw (lt-leb 1 count l)

  module _ (least : 1 ≤ count) where
    pub too_many : 16 < count → false ≡ side_by_side s count
    unfolding side_by_side
    too_many l = rw (le-leb 1 count least, lt-leb count 16 l)

    module _ (most : count ≤ 16) where
      pub uneven : (length s % count ≡ 0 → ⊥) → false ≡ side_by_side s count
      unfolding side_by_side
      uneven ne = rw (le-leb 1 count least, le-leb count 16 most, ne_eqb (length s % count) 0 ne)

      pub even : length s % count ≡ 0 → (t : List ℕ) → t ≡ table_at s (length_of_each s count) 0 → (b : Bool) → b ≡ sized t → b ≡ side_by_side s count
      unfolding side_by_side
      even e t te b be = rw (le-leb 1 count least, le-leb count 16 most, eq-eqb (length s % count) 0 e, ← te) be

-- What the ghost fields of `Pieces` say.
record Cut (s : List ℕ) (long count : ℕ) : Type 0 where
  some_piece : 1 ≤ count
  few : count ≤ 16
  whole : count * long ≡ length s
  with_head : head_octets ≤ long
  not_longer : long ≤ place most_rows

cut : (s : List ℕ) (count : ℕ) → side_by_side s count ≡ true → Cut s (length_of_each s count) count
unfolding side_by_side
cut s count passed =
    let many = leb 1 count in
    let few = leb count 16 in
    let whole = eqb (length s % count) 0 in
    let first = table_at s (length_of_each s count) 0 in
    let all = both (many && few && whole) (sized first) passed in
    let counted = both (many && few) whole all.0 in
    let ranged = both many few counted.0 in
    let long = piece_long s (length_of_each s count) 0 (first_within s count) in
    let size = of_size first (sized first) refl all.1 in
    record {
      some_piece = leb-true 1 count ranged.0;
      few = leb-true count 16 ranged.1;
      whole = omega (arith, mod-add-div (length s) count, eqb-true (length s % count) 0 counted.1);
      with_head = omega (arith, size.with_head, long);
      not_longer = omega (arith, size.not_longer, long);
    }

-- Octets that pass refusal 1 are pieces as the ghost fields say; b is whether they pass.
module _ (s : List ℕ) (count : ℕ) (b : Bool) (be : b ≡ side_by_side s count) (yes : not b ≡ false) where
  split_cut : Cut s (length_of_each s count) count
  split_cut = cut s count (sym be ∙ not-false b yes)

  pub divisible : 1 ≤ count
  divisible = split_cut.some_piece

  pub split_few : count ≤ 16
  split_few = split_cut.few

  pub split_whole : count * (length s / count) ≡ length s
  split_whole = split_cut.whole

  pub split_with_head : head_octets ≤ length s / count
  split_with_head = split_cut.with_head

  pub split_not_longer : length s / count ≤ place most_rows
  split_not_longer = split_cut.not_longer

module _ (s : List ℕ) (long count : ℕ) (some_piece : 1 ≤ count) (whole : count * long ≡ length s) where
  -- `long` is the length of each piece.
  pub divided : long ≡ length_of_each s count
  divided = sym (ap (λ (n : ℕ). n / count) (sym whole) ∙ mul-div_cancel_left long some_piece)

  module _ (i : ℕ) (l : i < count) where
    pub piece_within : long * i + long ≤ length s
    piece_within = omega (arith, mul-le-mul_left long l, mul-suc long i, mul_comm long count, whole)

    pub piece_sized : head_octets ≤ long → long ≤ place most_rows → (t : List ℕ) → t ≡ table_at s long i → Sized t
    piece_sized with_head not_longer t e =
        let n = ap length e ∙ piece_long s long i piece_within in
        record { with_head = omega (arith, with_head, n); not_longer = omega (arith, not_longer, n) }

  -- The tables and the points, in order of their indices.
  tables_each : tables_in s count ≡ each (table_at s long) 0 count
  tables_each = ap (λ (n : ℕ). each (table_at s n) 0 count) (sym divided)

  points_each : points (tables_in s count) ≡ each (point_at s long) 0 count
  points_each = ap points tables_each ∙ map_each address_of (table_at s long) 0 count

  -- What is found at an index is found among the tables.
  module _ (b : Bool) where
    pub point_contained : (a : Address) → b ≡ contains (each (point_at s long) 0 (count - 0)) a → b ≡ contains (points (tables_in s count)) a
    point_contained a e = e ∙ rw sub-zero (ap (λ (l : List Address). contains l a) (sym points_each))

    pub duplicate_found : b ≡ list_any (λ i. contains (each (point_at s long) (i + 1) (count - (i + 1))) (point_at s long i)) (range_with_len 0 count)
        → b ≡ has_duplicate (points (tables_in s count))
    duplicate_found e = e ∙ sym (ap has_duplicate points_each ∙ duplicate_each (point_at s long) 0 count count (omega arith))

    pub other_found : b ≡ list_any (λ i. not (is_table (table_at s long i))) (range_with_len 0 count)
        → b ≡ any (λ t. not (is_table t)) (tables_in s count)
    other_found e = e ∙ sym (ap (any (λ t. not (is_table t))) tables_each ∙ any_each (table_at s long) (λ t. not (is_table t)) 0 count)

    pub later_found : (c : ℕ) → b ≡ list_any (λ i. ltb c (head_at (table_at s long i)).clock) (range_with_len 0 count)
        → b ≡ any (has_later_clock c) (tables_in s count)
    unfolding has_later_clock
    later_found c e = e ∙ sym (ap (any (has_later_clock c)) tables_each ∙ any_each (table_at s long) (has_later_clock c) 0 count)

-- ---- the point with an address d, sought from the first point on; g is whether there is one

module _ (f : ℕ → Address) (n i : ℕ) (g : Bool) (d : Address) where
  module _ (l : i < n) (a : Address) (ae : a ≡ f i) (b : Bool) (be : b ≡ same a d) where
    point_next : contains (each f i (n - i)) d ≡ (b || contains (each f (i + 1) (n - (i + 1))) d)
    unfolding contains
    point_next =
        ap (λ (k : List Address). contains k d) (each_next f i n l)
        ∙ ap (λ (c : Bool). c || contains (each f (i + 1) (n - (i + 1))) d) (ap (λ (c : Address). same c d) (sym ae) ∙ sym be)

    pub point_met : b ≡ true → contains (each f i (n - i)) d ≡ g → true ≡ g
    point_met e h = rw (← h, point_next, e)

    pub point_not_met : b ≡ false → contains (each f i (n - i)) d ≡ g → contains (each f (i + 1) (n - (i + 1))) d ≡ g
    point_not_met e h = rw (← h, point_next, e)

  pub no_point_left : n ≤ i → contains (each f i (n - i)) d ≡ g → false ≡ g
  unfolding contains
  no_point_left l h = rw (← h, each_end f i n l)

-- ---- the address of a point

pub point_read : (s : List ℕ) (long i : ℕ) (t : List ℕ) → t ≡ table_at s long i → (n : ℕ) → n ≡ number_at 6 t 0 → record { 0 = n } ≡ point_at s long i
point_read s long i t te n ne = rw (ne, te)

pub point_within : (s : List ℕ) (long i : ℕ) → long * i + long ≤ length s → 6 ≤ long → (t : List ℕ) → t ≡ table_at s long i → 6 ≤ length t
point_within s long i within six t te = omega (arith, within, six, ap length te ∙ piece_long s long i within)

-- The test of refusal 10 has the result of the code's test.
pub ten_tested : (a b c d : Bool) → a ≡ b → c ≡ d → (v : Bool) → (not a || c) ≡ v → (not b || d) ≡ v
ten_tested a b c d e f v h = rw (← e, ← f) h

-- The pieces pass refusal 1.
pub one_passed : (b : Bool) → b ≡ true → not b ≡ false
one_passed b e = rw e
