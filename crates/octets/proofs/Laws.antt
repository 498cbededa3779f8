-- Laws of numbers in octets and of runs of fields. Each law holds for all widths.
use Prim.Native.Nat.{ℕ, zero, suc, ◌+◌, ◌-◌, ◌*◌, ◌/◌, ◌%◌, ◌^◌, ◌<◌, ◌≤◌}
use mathlib.Core.Path.{◌≡◌, refl, sym, ap, ap₂, ◌∙◌}
use mathlib.Core.Logic.{◌⊎◌, inl, inr, ⊎_elim}
use mathlib.Core.List.{List, [], ◌∷◌}
use lib.ListN.{length, get_or, set, take, drop, length-set, length-replicate, get_or-replicate, drop_of_length-le}
use borrow.Author.Count.{below_more}
use lib.Seq.{ext_get_or, get_or-set_same, get_or-set_other, drop-cons, get_or-take, get_or-drop, set_out}
use native.Mathlib.Decide.{ℕ_discrete}
use native.Mathlib.Omega.{arith}
use native.Mathlib.Numerals.{add-one}
use native.Mathlib.Nat.{not-suc-le-zero, zero-add, suc-add, add-zero, add-suc, pow-suc, eq-or-lt_of_le, mul_comm, div-div-eq-div-mul}
use borrow.Author.Tests.{ltb-true, ltb-false}
use lib.Dec.{ltb}
use mathlib.Core.Bool.{Bool, true, false}
use Rattle.std.specs.Int.{byte_at, byte_worth, bytes_low_first, sum_through}
use Rattle.octets.specs.LittleEndian.{number_at, number_octets, overwrite, with_number, fields_at, with_fields, total, zeros, Octets}

-- ---- numbers that fields can hold

-- States that there is one number for each field, and that each number fits its field.
unfoldable pub FitFields : List ℕ → List ℕ → Type 0
FitFields [] [] = Unit {0}
FitFields [] (x ∷ xs) = ⊥
FitFields (w ∷ ws) [] = ⊥
FitFields (w ∷ ws) (x ∷ xs) = (x < 256 ^ w) × FitFields ws xs

-- ---- one number

-- A number of m + n octets is the number in its first m octets and, above it, the number in its last n octets.
pub split : (m n : ℕ) (s : List ℕ) (at : ℕ) → number_at (m + n) s at ≡ number_at m s at + 256 ^ m * number_at n s (at + m)
unfolding number_at
split zero n s at = rw (zero-add, add-zero) (omega arith)
split (suc m) n s at = rw (suc-add, add-suc, ← suc-add, pow-suc) (omega (arith, split m n s (suc at)))

-- Two numbers that are read one after the other make one number.
pub read_6 : (s : List ℕ) (at a b : ℕ) → a ≡ number_at 4 s at → b ≡ number_at 2 s (at + 4) → a + 4294967296 * b ≡ number_at 6 s at
read_6 s at a b ae be = rw (ae, be) (sym (split 4 2 s at))

-- If the octets of two numbers agree, the numbers are equal.
agree : (n : ℕ) (s t : List ℕ) (at i : ℕ) → ((k : ℕ) → k < n → get_or s (at + k) 0 ≡ get_or t (i + k) 0) → number_at n s at ≡ number_at n t i
unfolding number_at
agree zero s t at i h = refl
agree (suc n) s t at i h =
    ap₂ (λ (b x : ℕ). b + 256 * x)
    (rw (add-zero, add-zero) at (h 0 (omega arith)))
    (agree n s t (suc at) (suc i) (λ k l. rw (suc-add, suc-add, ← add-suc, ← add-suc) (h (suc k) (omega arith))))

-- The clauses of `with_number` as equations. `rw` sees a call only where the definition is not unfolded.
with_zero : (s : List ℕ) (at x : ℕ) → with_number zero s at x ≡ s
unfolding with_number overwrite number_octets
with_zero s at x = refl

with_suc : (n : ℕ) (s : List ℕ) (at x : ℕ) → with_number (suc n) s at x ≡ with_number n (set s at (x % 256)) (suc at) (x / 256)
unfolding with_number overwrite number_octets
with_suc n s at x = refl

-- Writing a low part in m octets, and a high part in the n octets after them, writes the whole number.
pub number_parts : (m n : ℕ) (s : List ℕ) (at low high : ℕ) → low < 256 ^ m
    → with_number n (with_number m s at low) (at + m) high ≡ with_number (m + n) s at (low + 256 ^ m * high)
number_parts zero n s at low high small = rw (with_zero, add-zero, zero-add) (ap (with_number n s at) (omega arith))
number_parts (suc m) n s at low high small =
    rw (with_suc, suc-add, with_suc, add-suc, ← suc-add)
    (number_parts m n (set s at (low % 256)) (suc at) (low / 256) high quotient_fits
    ∙ ap₂ (λ (x y : ℕ). with_number (m + n) (set s at x) (suc at) y) lowest others)
  where
    quotient_fits : low / 256 < 256 ^ m
    quotient_fits = omega (arith, (rw pow-suc at small))

    lowest : low % 256 ≡ (low + 256 ^ suc m * high) % 256
    lowest = rw pow-suc (omega arith)

    others : low / 256 + 256 ^ m * high ≡ (low + 256 ^ suc m * high) / 256
    others = rw pow-suc (omega arith)

-- Applies `number_parts` to a number x with the parts low and high.
parted : (m n : ℕ) (s t u : List ℕ) (at x low high : ℕ) → low < 256 ^ m → x ≡ low + 256 ^ m * high
    → t ≡ with_number m s at low → u ≡ with_number n t (at + m) high → u ≡ with_number (m + n) s at x
parted m n s t u at x low high small xe te ue =
    ue ∙ ap (λ (v : List ℕ). with_number n v (at + m) high) te ∙ number_parts m n s at low high small ∙ ap (with_number (m + n) s at) (sym xe)

pub written_1 : (s : List ℕ) (at x : ℕ) → x < 256 → set s at x ≡ with_number 1 s at x
unfolding with_number overwrite number_octets
written_1 s at x small = ap (set s at) (omega arith)

-- The part of x above the octets written plays no part.
lowest_alone : (m : ℕ) (s u : List ℕ) (at x low high : ℕ) → low < 256 ^ m → x ≡ low + 256 ^ m * high → u ≡ with_number m s at low → u ≡ with_number m s at x
lowest_alone m s u at x low high small xe ue =
    parted m 0 s u u at x low high small xe ue (sym (with_zero u (at + m) high)) ∙ ap (λ (k : ℕ). with_number k s at x) (add-zero m)

module _ (s : List ℕ) (at x : ℕ) where
  pub written_6 : (t u : List ℕ) → t ≡ with_number 4 s at (x % 4294967296) → u ≡ with_number 2 t (at + 4) (x / 4294967296 % 65536)
      → u ≡ with_number 6 s at x
  written_6 t u te ue =
      parted 4 2 s t u at x (x % 4294967296) (x / 4294967296) (omega arith) (omega arith) te
      (lowest_alone 2 t u (at + 4) (x / 4294967296) (x / 4294967296 % 65536) (x / 4294967296 / 65536) (omega arith) (omega arith) ue)

pub length_number : (n : ℕ) (s : List ℕ) (at x : ℕ) → length (with_number n s at x) ≡ length s
unfolding with_number overwrite number_octets
length_number zero s at x = refl
length_number (suc n) s at x = length_number n (set s at (x % 256)) (suc at) (x / 256) ∙ length-set s at (x % 256)

-- ---- the library's octets of a number

-- Reading n octets that were taken out of s is reading them where they stand.
number_taken : (n : ℕ) (s : List ℕ) (at : ℕ) → number_at n (take n (drop at s)) 0 ≡ number_at n s at
number_taken n s at =
    agree n (take n (drop at s)) s 0 at
    (λ k l. ap (λ (j : ℕ). get_or (take n (drop at s)) j 0) (zero-add k) ∙ get_or-take n (drop at s) k 0 l ∙ get_or-drop at s k 0)

number_one : (s : List ℕ) (at : ℕ) → number_at 1 s at ≡ get_or s at 0
unfolding number_at
number_one s at = omega arith

-- The library's sum over k + 1 octets is the number in them.
bytes_from : (k : ℕ) (p : List ℕ) → sum_through (λ i. byte_worth i (get_or p i 0)) k ≡ number_at (suc k) p 0
bytes_from zero p = sym (number_one p 0)
bytes_from (suc k) p = rw (← add-one (suc k), split, zero-add, number_one, mul_comm, bytes_from k p) refl

-- The library's number of the k + 1 octets from place `at` on is the number in them.
pub read_whole : (k : ℕ) (s p : List ℕ) (at x : ℕ) → p ≡ take (suc k) (drop at s) → x ≡ sum_through (λ i. byte_worth i (get_or p i 0)) k → x ≡ number_at (suc k) s at
read_whole k s p at x e xe = xe ∙ bytes_from k p ∙ ap (λ (l : List ℕ). number_at (suc k) l 0) e ∙ number_taken (suc k) s at

byte_is : (i x : ℕ) → byte_at i x ≡ x / 256 ^ i % 256
byte_is zero x = omega arith
byte_is (suc i) x = refl

-- The library's n bytes of x from byte i upward are the lowest n octets of what stands above the first i octets of x.
bytes_of : (n i x : ℕ) → bytes_low_first i n x ≡ number_octets n (x / 256 ^ i)
unfolding number_octets
bytes_of zero i x = refl
bytes_of (suc n) i x =
    let above : x / 256 ^ suc i ≡ x / 256 ^ i / 256 = rw (pow-suc, ← div-div-eq-div-mul) refl in
    ap₂ ◌∷◌ (byte_is i x) (bytes_of n (suc i) x ∙ ap (number_octets n) above)

-- Writing the library's n bytes of x writes the number.
pub written : (n : ℕ) (s p t : List ℕ) (at x : ℕ) → p ≡ bytes_low_first 0 n x → t ≡ overwrite s at p → t ≡ with_number n s at x
unfolding with_number
written n s p t at x e te =
    let whole : x / 256 ^ 0 ≡ x = omega arith in
    te ∙ ap (overwrite s at) (e ∙ bytes_of n 0 x ∙ ap (number_octets n) whole)

-- ---- read after write

-- An octet outside the octets written stays.
octet_other : (n : ℕ) (s : List ℕ) (at x k : ℕ) → (k < at) ⊎ (at + n ≤ k) → get_or (with_number n s at x) k 0 ≡ get_or s k 0
unfolding with_number overwrite number_octets
octet_other zero s at x k h = refl
octet_other (suc n) s at x k h =
    octet_other n (set s at (x % 256)) (suc at) (x / 256) k (⊎_elim (λ l. inl (omega arith)) (λ l. inr (omega arith)) h)
    ∙ get_or-set_other s at k (x % 256) 0 (⊎_elim (λ l. omega arith) (λ l. omega arith) h)

-- An octet inside the octets written does not depend on what stood there.
octet_overwrite : (n : ℕ) (s u : List ℕ) (at x k : ℕ) → length s ≡ length u → at + n ≤ length s → at ≤ k → k < at + n
    → get_or (with_number n s at x) k 0 ≡ get_or (with_number n u at x) k 0
unfolding with_number overwrite number_octets
octet_overwrite zero s u at x k e l h g = absurd (omega arith)
octet_overwrite (suc n) s u at x k e l h g =
    ⊎_elim
    (λ q. rw (← q) (first s (omega arith) ∙ sym (first u (omega arith))))
    (λ (m : at < k). octet_overwrite n (set s at (x % 256)) (set u at (x % 256)) (suc at) (x / 256) k (simp length-set e) (rw length-set (omega arith)) m (omega arith))
    (eq-or-lt_of_le h)
  where
    first : (v : List ℕ) → at < length v → get_or (with_number n (set v at (x % 256)) (suc at) (x / 256)) at 0 ≡ x % 256
    first v m = octet_other n (set v at (x % 256)) (suc at) (x / 256) at (inl (omega arith)) ∙ get_or-set_same v at (x % 256) 0 m

-- Reading returns the number that was written.
pub number_same : (n : ℕ) (s : List ℕ) (at x : ℕ) → at + n ≤ length s → x < 256 ^ n → number_at n (with_number n s at x) at ≡ x
unfolding number_at with_number overwrite number_octets
number_same zero s at x h b = omega arith
number_same (suc n) s at x h b =
    let t : List ℕ = set s at (x % 256) in
    let b' : x < 256 ^ n * 256 = rw pow-suc at b in
    let first = octet_other n t (suc at) (x / 256) at (inl (omega arith)) ∙ get_or-set_same s at (x % 256) 0 (omega arith) in
    let rest = number_same n t (suc at) (x / 256) (rw length-set (omega arith)) (omega arith) in
    omega arith

-- A number of n octets is below 256 ^ n.
pub number_bound : (n : ℕ) (s : List ℕ) (at : ℕ) → Octets s → number_at n s at < 256 ^ n
unfolding number_at Octets
number_bound zero s at o = omega arith
number_bound (suc n) s at o =
    let b : get_or s at 0 < 256 = o at in
    rw pow-suc (omega (arith, number_bound n s (suc at) o))

-- ---- octets that are all zero

pub octet_zero : (n k : ℕ) → get_or (zeros n) k 0 ≡ 0
octet_zero zero k = refl
octet_zero (suc n) zero = refl
octet_zero (suc n) (suc k) = octet_zero n k

-- Every number in zero octets is zero.
pub number_zero : (w n at : ℕ) → number_at w (zeros n) at ≡ 0
unfolding number_at
number_zero zero n at = refl
number_zero (suc w) n at = rw (octet_zero n at, number_zero w n (suc at))

-- ---- octets stay octets

octets_set : (s : List ℕ) (at v : ℕ) → v < 256 → Octets s → Octets (set s at v)
unfolding Octets
octets_set s at v l o k = by (ℕ_discrete k at) (ltb at (length s)) refl
  where
    by : Dec (k ≡ at) → (b : Bool) → ltb at (length s) ≡ b → get_or (set s at v) k 0 < 256
    by (no q) b e = rw (get_or-set_other s at k v 0 q) (o k)
    by (yes q) true e = rw (q, get_or-set_same s at v 0 (ltb-true at (length s) e)) l
    by (yes q) false e = rw (set_out s at v (ltb-false at (length s) e)) (o k)

pub octets_number : (n : ℕ) (s : List ℕ) (at x : ℕ) → Octets s → Octets (with_number n s at x)
unfolding with_number overwrite number_octets
octets_number zero s at x o = o
octets_number (suc n) s at x o =
    octets_number n (set s at (x % 256)) (suc at) (x / 256) (octets_set s at (x % 256) (omega arith) o)

pub octets_zero : (n : ℕ) → Octets (zeros n)
unfolding Octets
octets_zero n k = rw (octet_zero n k) (omega arith)

-- ---- the laws above, for fields

pub length_fields : (ws s : List ℕ) (at o : ℕ) (xs : List ℕ) → length (with_fields ws s at o xs) ≡ length s
unfolding with_fields
length_fields [] s at o xs = refl
length_fields (w ∷ ws) s at o [] = refl
length_fields (w ∷ ws) s at o (x ∷ xs) = length_fields ws (with_number w s (at + o) x) at (o + w) xs ∙ length_number w s (at + o) x

-- An octet outside the fields written stays.
pub octet_apart : (ws s : List ℕ) (k at o : ℕ) (xs : List ℕ) → (k < at + o) ⊎ (at + o + total ws ≤ k) → get_or (with_fields ws s at o xs) k 0 ≡ get_or s k 0
unfolding with_fields total
octet_apart [] s k at o xs h = refl
octet_apart (w ∷ ws) s k at o [] h = refl
octet_apart (w ∷ ws) s k at o (x ∷ xs) h =
    octet_apart ws (with_number w s (at + o) x) k at (o + w) xs (⊎_elim (λ a. inl (omega arith)) (λ b. inr (omega arith)) h)
    ∙ octet_other w s (at + o) x k (⊎_elim (λ a. inl (omega arith)) (λ b. inr (omega arith)) h)

-- An octet inside the fields written does not depend on what stood there.
pub octet_inside : (ws s u : List ℕ) (k at o : ℕ) (xs : List ℕ) → length s ≡ length u → length ws ≡ length xs → at + o + total ws ≤ length s
    → at + o ≤ k → k < at + o + total ws → get_or (with_fields ws s at o xs) k 0 ≡ get_or (with_fields ws u at o xs) k 0
unfolding with_fields total
octet_inside [] s u k at o xs e f l h g = absurd (omega arith)
octet_inside (w ∷ ws) s u k at o [] e f l h g = absurd (omega arith)
octet_inside (w ∷ ws) s u k at o (x ∷ xs) e f l h g =
    by (ltb k (at + o + w)) refl
    (λ m. octet_inside ws (with_number w s (at + o) x) (with_number w u (at + o) x) k at (o + w) xs
    (length_number w s (at + o) x ∙ e ∙ sym (length_number w u (at + o) x)) (omega arith)
    (rw length_number (omega arith)) (omega arith) (omega arith))
  where
    Same : Type 0
    Same = get_or (with_fields ws (with_number w s (at + o) x) at (o + w) xs) k 0 ≡ get_or (with_fields ws (with_number w u (at + o) x) at (o + w) xs) k 0

    by : (b : Bool) → ltb k (at + o + w) ≡ b → (at + o + w ≤ k → Same) → Same
    by true q rest =
        let m = ltb-true k (at + o + w) q in
        octet_apart ws (with_number w s (at + o) x) k at (o + w) xs (inl (omega arith))
        ∙ octet_overwrite w s u (at + o) x k e (omega arith) h m
        ∙ sym (octet_apart ws (with_number w u (at + o) x) k at (o + w) xs (inl (omega arith)))
    by false q rest = rest (ltb-false k (at + o + w) q)

-- A number that stands apart from the fields written stays.
pub apart : (m : ℕ) (ws s : List ℕ) (p at o : ℕ) (xs : List ℕ) → (p + m ≤ at + o) ⊎ (at + o + total ws ≤ p) → number_at m (with_fields ws s at o xs) p ≡ number_at m s p
apart m ws s p at o xs h =
    agree m (with_fields ws s at o xs) s p p
    (λ k l. octet_apart ws s (p + k) at o xs (⊎_elim (λ a. inl (omega arith)) (λ b. inr (omega arith)) h))

-- Fields that stand apart from the fields written stay.
pub fields_other : (vs ws s : List ℕ) (p q at o : ℕ) (xs : List ℕ) → (p + q + total vs ≤ at + o) ⊎ (at + o + total ws ≤ p + q) → fields_at vs (with_fields ws s at o xs) p q ≡ fields_at vs s p q
unfolding fields_at total
fields_other [] ws s p q at o xs h = refl
fields_other (v ∷ vs) ws s p q at o xs h =
    ap₂ ◌∷◌
    (apart v ws s (p + q) at o xs (⊎_elim (λ a. inl (omega arith)) (λ b. inr (omega arith)) h))
    (fields_other vs ws s p (q + v) at o xs (⊎_elim (λ a. inl (omega arith)) (λ b. inr (omega arith)) h))

-- Reading returns the fields that were written.
pub fields_same : (ws s : List ℕ) (at o : ℕ) (xs : List ℕ) → at + o + total ws ≤ length s → FitFields ws xs → fields_at ws (with_fields ws s at o xs) at o ≡ xs
unfolding fields_at with_fields total FitFields
fields_same [] s at o [] h f = refl
fields_same [] s at o (x ∷ xs) h f = absurd f
fields_same (w ∷ ws) s at o [] h f = absurd f
fields_same (w ∷ ws) s at o (x ∷ xs) h f =
    ap₂ ◌∷◌
    (apart w ws (with_number w s (at + o) x) (at + o) at (o + w) xs (inl (omega arith)) ∙ number_same w s (at + o) x (omega arith) f.0)
    (fields_same ws (with_number w s (at + o) x) at (o + w) xs (rw length_number (omega arith)) f.1)

-- Numbers that are read from octets fit their fields.
pub fields_fit : (ws s : List ℕ) (at o : ℕ) → Octets s → FitFields ws (fields_at ws s at o)
unfolding fields_at FitFields
fields_fit [] s at o h = tt
fields_fit (w ∷ ws) s at o h = (number_bound w s (at + o) h, fields_fit ws s at (o + w) h)

pub octets_fields : (ws s : List ℕ) (at o : ℕ) (xs : List ℕ) → Octets s → Octets (with_fields ws s at o xs)
unfolding with_fields
octets_fields [] s at o xs h = h
octets_fields (w ∷ ws) s at o [] h = h
octets_fields (w ∷ ws) s at o (x ∷ xs) h = octets_fields ws (with_number w s (at + o) x) at (o + w) xs (octets_number w s (at + o) x h)

pub fields_zero : (ws : List ℕ) (n at o : ℕ) → fields_at ws (zeros n) at o ≡ zeros (length ws)
unfolding fields_at
fields_zero [] n at o = refl
fields_zero (w ∷ ws) n at o = ap₂ ◌∷◌ (number_zero w n (at + o)) (fields_zero ws n at (o + w))

-- ---- loops that write: writing what is left gives the whole result g

pub number_more : (n j : ℕ) (s g : List ℕ) (at x : ℕ) → j < n → with_number (n - j) s (at + j) x ≡ g
    → with_number (n - (j + 1)) (set s (at + j) (x % 256)) (at + (j + 1)) (x / 256) ≡ g
number_more n j s g at x l h =
    let p : n - j ≡ suc (n - (j + 1)) = omega arith in
    let q : at + (j + 1) ≡ suc (at + j) = omega arith in
    rw q (rw (p, with_suc) at h)

pub number_ended : (n j : ℕ) (s g : List ℕ) (at x : ℕ) → n ≤ j → with_number (n - j) s (at + j) x ≡ g → s ≡ g
number_ended n j s g at x l h =
    let p : n - j ≡ 0 = omega arith in
    rw (p, with_zero) at h

-- The clauses of `total` and `with_fields` as equations.
total_cons : (w : ℕ) (ws : List ℕ) → total (w ∷ ws) ≡ w + total ws
unfolding total
total_cons w ws = refl

fields_nil : (s : List ℕ) (at o : ℕ) (xs : List ℕ) → with_fields [] s at o xs ≡ s
unfolding with_fields
fields_nil s at o xs = refl

fields_cons : (w : ℕ) (ws s : List ℕ) (at o x : ℕ) (xs : List ℕ) → with_fields (w ∷ ws) s at o (x ∷ xs) ≡ with_fields ws (with_number w s (at + o) x) at (o + w) xs
unfolding with_fields
fields_cons w ws s at o x xs = refl

-- After one more field, the octets written and the octets of the fields left still make the total.
pub total_more : (ws : List ℕ) (i o : ℕ) → i < length ws → o + total (drop i ws) ≡ total ws → o + get_or ws i 0 + total (drop (i + 1) ws) ≡ total ws
total_more ws i o l h = let e = rw (drop-cons ws i 0 l, total_cons) at h in rw add-one (omega arith)

pub fields_more : (ws xs s g : List ℕ) (i at o : ℕ) → i < length ws → length ws ≡ length xs → with_fields (drop i ws) s at o (drop i xs) ≡ g
    → (t : List ℕ) → t ≡ with_number (get_or ws i 0) s (at + o) (get_or xs i 0)
    → with_fields (drop (i + 1) ws) t at (o + get_or ws i 0) (drop (i + 1) xs) ≡ g
fields_more ws xs s g i at o l e h t te =
    let l' : i < length xs = omega arith in
    rw (add-one, te) (rw (drop-cons ws i 0 l, drop-cons xs i 0 l', fields_cons) at h)

pub fields_ended : (ws xs s g : List ℕ) (i at o : ℕ) → length ws ≤ i → with_fields (drop i ws) s at o (drop i xs) ≡ g → s ≡ g
fields_ended ws xs s g i at o l h = rw (drop_of_length-le ws l, fields_nil) at h

-- ---- a loop that clears: the octets below i are zero

pub record Cleared (s : List ℕ) (i : ℕ) : Type 0 where
  pub zeros : (k : ℕ) → k < i → get_or s k 0 ≡ 0

pub cleared_none : (s : List ℕ) → Cleared s 0
cleared_none s = record { zeros = λ k l. absurd (not-suc-le-zero l) }

pub cleared_more : (s : List ℕ) (i : ℕ) → i < length s → Cleared s i → Cleared (set s i 0) (i + 1)
cleared_more s i l h =
    record {
      zeros =
          below_more (λ (k : ℕ). get_or (set s i 0) k 0 ≡ 0) i
          (λ k g. get_or-set_other s i k 0 0 (λ q. omega arith) ∙ h.zeros k g)
          (get_or-set_same s i 0 0 l);
    }

pub cleared_ended : (s : List ℕ) (i n : ℕ) → length s ≡ n → length s ≤ i → Cleared s i → s ≡ zeros n
cleared_ended s i n e l h =
    ext_get_or 0 s (zeros n) (rw length-replicate e)
    (λ k g. h.zeros k (omega arith) ∙ sym (get_or-replicate n k 0 0 (omega arith)))
