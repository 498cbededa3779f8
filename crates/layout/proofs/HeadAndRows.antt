-- Laws of the head and the rows in the octets of a table. Callers use these laws and never look at an octet.
use Prim.Native.Nat.{ℕ, ◌+◌, ◌*◌, ◌^◌, ◌<◌, ◌≤◌}
use mathlib.Core.Path.{◌≡◌, refl, sym, ap, ◌∙◌}
use mathlib.Core.List.{List, [], ◌∷◌}
use mathlib.Core.Logic.{inl, inr}
use lib.ListN.{length}
use lib.Dec.{eqb}
use mathlib.Core.Bool.{Bool, true, false, ◌&&◌, and-eq-true_iff}
use borrow.Author.Tests.{eqb-true, eq-eqb}
use native.Mathlib.Nat.{add-zero, add_assoc}
use native.Mathlib.Omega.{arith, ne_cases}
use Rattle.octets.specs.LittleEndian.{number_at, with_number, fields_at, with_fields, total, zeros, Octets}
use Rattle.octets.proofs.Laws.{FitFields, split, length_fields, fields_same, fields_other, fields_fit, fields_zero, octets_fields}
use Rattle.layout.specs.declared.row.Head.{Head}
use Rattle.layout.specs.declared.row.Row.{Row}
use Rattle.layout.specs.Row.{free_row, is_free}
use Rattle.layout.specs.Layout.{all_zero, place, row_widths, head_widths, row_of, head_of, row_numbers, head_numbers, row_at, head_at, put_row, put_head, row_octets, head_octets}

-- ---- values that the octets of a head or a row can hold

-- States that each number of a head fits its octets.
pub record FitHead (h : Head) : Type 0 where
  pub own : h.own.0 < 256 ^ 6
  pub zero2 : h.zero2 < 256 ^ 2
  pub number : h.number.0 < 256 ^ 4
  pub request : h.request.0 < 256 ^ 4
  pub clock : h.clock < 256 ^ 8
  pub zero8 : h.zero8 < 256 ^ 8

-- States that each number of a row fits its octets.
pub record FitRow (r : Row) : Type 0 where
  pub status : r.status < 256 ^ 1
  pub known : r.known < 256 ^ 1
  pub hops : r.hops.0 < 256 ^ 1
  pub zero : r.zero < 256 ^ 1
  pub destination : r.destination.0 < 256 ^ 6
  pub next : r.next.0 < 256 ^ 6
  pub number : r.number.0 < 256 ^ 4
  pub metric : r.metric.0 < 256 ^ 4
  pub expiry : r.expiry < 256 ^ 8

-- Convert between the named numbers of a head or a row and the run of fields that the laws of octets are about.
module _ (h : Head) where
  head_fields : FitHead h → FitFields head_widths (head_numbers h)
  unfolding FitFields
  head_fields f = search f

  pub fit_head : FitFields head_widths (head_numbers h) → FitHead h
  unfolding FitFields
  fit_head f = search f

module _ (r : Row) where
  row_fields : FitRow r → FitFields row_widths (row_numbers r)
  unfolding FitFields
  row_fields f = search f

  pub fit_row : FitFields row_widths (row_numbers r) → FitRow r
  unfolding FitFields
  fit_row f = search f

-- Reading the fields of row i one by one gives the row.
pub read : (t : List ℕ) (i : ℕ) {a b c d e f g h k : ℕ}
    → a ≡ number_at 1 t (place i) → b ≡ number_at 1 t (place i + 1) → c ≡ number_at 1 t (place i + 2) → d ≡ number_at 1 t (place i + 3)
    → e ≡ number_at 6 t (place i + 4) → f ≡ number_at 6 t (place i + 10) → g ≡ number_at 4 t (place i + 16)
    → h ≡ number_at 4 t (place i + 20) → k ≡ number_at 8 t (place i + 24)
    → row_of (a ∷ b ∷ c ∷ d ∷ e ∷ f ∷ g ∷ h ∷ k ∷ []) ≡ row_at t i
unfolding row_at fields_at
read t i p₁ p₂ p₃ p₄ p₅ p₆ p₇ p₈ p₉ = cc (add-zero (place i))

-- Writing the fields of a row one by one puts the row.
module _ (t : List ℕ) (r : Row) where
  pub status_put : (at : ℕ) (a b c u : List ℕ) → a ≡ with_number 1 t at r.status → b ≡ with_number 1 a (at + 1) r.known
      → c ≡ with_number 1 b (at + 2) r.hops.0 → u ≡ with_number 1 c (at + 3) r.zero
      → u ≡ with_fields (1 ∷ 1 ∷ 1 ∷ 1 ∷ []) t at 0 (r.status ∷ r.known ∷ r.hops.0 ∷ r.zero ∷ [])
  unfolding with_fields
  status_put at a b c u ae be ce ue = cc (add-zero at)

  pub fields_put : (i : ℕ) (s d n q m u : List ℕ)
      → s ≡ with_fields (1 ∷ 1 ∷ 1 ∷ 1 ∷ []) t (place i) 0 (r.status ∷ r.known ∷ r.hops.0 ∷ r.zero ∷ [])
      → d ≡ with_number 6 s (place i + 4) r.destination.0 → n ≡ with_number 6 d (place i + 10) r.next.0
      → q ≡ with_number 4 n (place i + 16) r.number.0 → m ≡ with_number 4 q (place i + 20) r.metric.0
      → u ≡ with_number 8 m (place i + 24) r.expiry → u ≡ put_row t i r
  unfolding with_fields put_row
  fields_put i s d n q m u se de ne qe me ue = cc

-- ---- a row that is put

pub length_row : (t : List ℕ) (i : ℕ) (r : Row) → length (put_row t i r) ≡ length t
unfolding put_row
length_row t i r = length_fields row_widths t (place i) 0 (row_numbers r)

-- Reading returns the row that was put.
pub row_same : (t : List ℕ) (i : ℕ) (r : Row) → place i + row_octets ≤ length t → FitRow r → row_at (put_row t i r) i ≡ r
unfolding row_at put_row total
row_same t i r h f = ap row_of (fields_same row_widths t (place i) 0 (row_numbers r) (omega arith) (row_fields r f))

-- The other rows stay.
pub row_other : (t : List ℕ) (i k : ℕ) (r : Row) → (k ≡ i → ⊥) → row_at (put_row t i r) k ≡ row_at t k
unfolding row_at put_row total
row_other t i k r n =
    ap row_of
    (fields_other row_widths row_widths t (place k) 0 (place i) 0 (row_numbers r)
    (ne_cases k i _ n (λ l. inl (omega arith)) (λ g. inr (omega arith))))

-- The head stays.
pub head_stays : (t : List ℕ) (i : ℕ) (r : Row) → head_at (put_row t i r) ≡ head_at t
unfolding head_at put_row total
head_stays t i r = ap head_of (fields_other head_widths row_widths t 0 0 (place i) 0 (row_numbers r) (inl (omega arith)))

pub row_octets_lem : (t : List ℕ) (i : ℕ) (r : Row) → Octets t → Octets (put_row t i r)
unfolding put_row
row_octets_lem t i r o = octets_fields row_widths t (place i) 0 (row_numbers r) o

-- ---- a head that is put

pub length_head : (t : List ℕ) (h : Head) → length (put_head t h) ≡ length t
unfolding put_head
length_head t h = length_fields head_widths t 0 0 (head_numbers h)

pub head_same : (t : List ℕ) (h : Head) → head_octets ≤ length t → FitHead h → head_at (put_head t h) ≡ h
unfolding head_at put_head total
head_same t h l f = ap head_of (fields_same head_widths t 0 0 (head_numbers h) (omega arith) (head_fields h f))

pub row_stays : (t : List ℕ) (h : Head) (k : ℕ) → row_at (put_head t h) k ≡ row_at t k
unfolding row_at put_head total
row_stays t h k = ap row_of (fields_other row_widths head_widths t (place k) 0 0 0 (head_numbers h) (inr (omega arith)))

pub head_octets_lem : (t : List ℕ) (h : Head) → Octets t → Octets (put_head t h)
unfolding put_head
head_octets_lem t h o = octets_fields head_widths t 0 0 (head_numbers h) o

-- ---- what is read

-- A row that is read from octets fits its octets.
pub row_fits : (t : List ℕ) (i : ℕ) → Octets t → FitRow (row_at t i)
unfolding row_at fields_at
row_fits t i o = fit_row (row_at t i) (fields_fit row_widths t (place i) 0 o)

pub head_fits : (t : List ℕ) → Octets t → FitHead (head_at t)
unfolding head_at fields_at
head_fits t o = fit_head (head_at t) (fields_fit head_widths t 0 0 o)

-- The rows of zero octets are free.
pub row_zero : (n i : ℕ) → row_at (zeros n) i ≡ free_row
unfolding row_at
row_zero n i = ap row_of (fields_zero row_widths n (place i) 0)

-- ---- a row that is zero, eight octets at a time

both_ways : (x y : Bool) → (x ≡ true → y ≡ true) → (y ≡ true → x ≡ true) → x ≡ y
both_ways true y f g = sym (f refl)
both_ways false true f g = g refl
both_ways false false f g = refl

zero_nil : all_zero [] ≡ true
unfolding all_zero
zero_nil = refl

zero_cons : (x : ℕ) (xs : List ℕ) → x ≡ 0 → all_zero xs ≡ true → all_zero (x ∷ xs) ≡ true
unfolding all_zero
zero_cons x xs z h = rw (eq-eqb x 0 z) h

zero_parts : (x : ℕ) (xs : List ℕ) → all_zero (x ∷ xs) ≡ true → (x ≡ 0) × (all_zero xs ≡ true)
unfolding all_zero
zero_parts x xs e = let both = (and-eq-true_iff (eqb x 0) (all_zero xs)).0 e in (eqb-true x 0 both.0, both.1)

-- `split`, with the offset kept apart from the place.
split_from : (m n : ℕ) (t : List ℕ) (p o : ℕ) → number_at (m + n) t (p + o) ≡ number_at m t (p + o) + 256 ^ m * number_at n t (p + (o + m))
split_from m n t p o = split m n t (p + o) ∙ ap (λ (q : ℕ). number_at m t (p + o) + 256 ^ m * number_at n t q) (add_assoc p o m)

module _ (t : List ℕ) (i : ℕ) {a b c d : ℕ} (ae : a ≡ number_at 8 t (place i)) (be : b ≡ number_at 8 t (place i + 8))
    (ce : c ≡ number_at 8 t (place i + 16)) (de : d ≡ number_at 8 t (place i + 24)) where
  -- Returns the field of n octets at offset o.
  part : ℕ → ℕ → ℕ
  part n o = number_at n t (place i + o)

  -- The four numbers of eight octets, by the row's fields. The destination spans two of the numbers.
  first_eight : a ≡ part 1 0 + 256 * part 1 1 + 65536 * part 1 2 + 16777216 * part 1 3 + 4294967296 * part 4 4
  unfolding part
  first_eight =
      let start : a ≡ number_at 8 t (place i + 0) = rw (add-zero (place i)) ae in
      omega (arith, split_from 4 4 t (place i) 0, split_from 2 2 t (place i) 0, split_from 1 1 t (place i) 0, split_from 1 1 t (place i) 2)

  second_eight : b ≡ part 2 8 + 65536 * part 6 10
  unfolding part
  second_eight = omega (arith, split_from 2 6 t (place i) 8)

  third_eight : c ≡ part 4 16 + 4294967296 * part 4 20
  unfolding part
  third_eight = omega (arith, split_from 4 4 t (place i) 16)

  destination : part 6 4 ≡ part 4 4 + 4294967296 * part 2 8
  unfolding part
  destination = omega (arith, split_from 4 2 t (place i) 4)

  free_of : a ≡ 0 → b ≡ 0 → c ≡ 0 → d ≡ 0 → is_free (row_at t i) ≡ true
  unfolding is_free row_at fields_at part
  free_of a0 b0 c0 d0 =
      let p = first_eight in
      let q = second_eight in
      let r = third_eight in
      let s = destination in
      zero_cons _ _ (omega arith) (zero_cons _ _ (omega arith) (zero_cons _ _ (omega arith) (zero_cons _ _ (omega arith) (zero_cons _ _ (omega arith)
      (zero_cons _ _ (omega arith) (zero_cons _ _ (omega arith) (zero_cons _ _ (omega arith) (zero_cons _ _ (omega arith) zero_nil))))))))

  zero_of : is_free (row_at t i) ≡ true → (a ≡ 0) × (b ≡ 0) × (c ≡ 0) × (d ≡ 0)
  unfolding is_free row_at fields_at part
  zero_of e =
      let f₁ = zero_parts _ _ e in
      let f₂ = zero_parts _ _ f₁.1 in
      let f₃ = zero_parts _ _ f₂.1 in
      let f₄ = zero_parts _ _ f₃.1 in
      let f₅ = zero_parts _ _ f₄.1 in
      let f₆ = zero_parts _ _ f₅.1 in
      let f₇ = zero_parts _ _ f₆.1 in
      let f₈ = zero_parts _ _ f₇.1 in
      let f₉ = zero_parts _ _ f₈.1 in
      let p = first_eight in
      let q = second_eight in
      let r = third_eight in
      let s = destination in
      (omega arith, omega arith, omega arith, omega arith)

  pub blank : (eqb a 0 && eqb b 0 && eqb c 0 && eqb d 0) ≡ is_free (row_at t i)
  blank =
      both_ways (eqb a 0 && eqb b 0 && eqb c 0 && eqb d 0) (is_free (row_at t i))
      (λ e.
      let f₃ = (and-eq-true_iff (eqb a 0 && eqb b 0 && eqb c 0) (eqb d 0)).0 e in
      let f₂ = (and-eq-true_iff (eqb a 0 && eqb b 0) (eqb c 0)).0 f₃.0 in
      let f₁ = (and-eq-true_iff (eqb a 0) (eqb b 0)).0 f₂.0 in
      free_of (eqb-true a 0 f₁.0) (eqb-true b 0 f₁.1) (eqb-true c 0 f₂.1) (eqb-true d 0 f₃.1))
      (λ e. let z = zero_of e in rw (eq-eqb a 0 z.0, eq-eqb b 0 z.1, eq-eqb c 0 z.2, eq-eqb d 0 z.3))
