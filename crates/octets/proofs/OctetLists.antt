-- Laws of numbers and fields as lists of octets: written over other octets, read from a longer list, rebuilt from what was read.
use Prim.Native.Nat.{ℕ, zero, suc, ◌+◌, ◌*◌, ◌/◌, ◌%◌, ◌^◌, ◌<◌, ◌≤◌}
use mathlib.Core.Path.{◌≡◌, refl, sym, ap, ap₂, ◌∙◌}
use mathlib.Core.List.{List, [], ◌∷◌, ◌++◌, append_assoc}
use lib.ListN.{length, get_or, set, take, drop, length-append, drop_of_length-le}
use lib.Seq.{set-set, set_comm, drop-cons, take-add, drop-drop, get_or-append-add, get_or-drop}
use native.Mathlib.Omega.{arith}
use native.Mathlib.Numerals.{add-one}
use native.Mathlib.Nat.{add-zero, pow-suc}
use Rattle.octets.specs.LittleEndian.{number_at, number_octets, overwrite, with_number, fields_at, field_octets, with_fields, total, Octets}
use Rattle.octets.proofs.Laws.{FitFields}

-- ---- written over other octets

-- The clauses of `overwrite` as equations.
overwrite_nil : (s : List ℕ) (at : ℕ) → overwrite s at [] ≡ s
unfolding overwrite
overwrite_nil s at = refl

overwrite_cons : (s : List ℕ) (at x : ℕ) (p : List ℕ) → overwrite s at (x ∷ p) ≡ overwrite (set s at x) (suc at) p
unfolding overwrite
overwrite_cons s at x p = refl

-- Writing p ++ q is writing p and then q after it.
pub overwrite_append : (s : List ℕ) (at : ℕ) (p q : List ℕ) → overwrite s at (p ++ q) ≡ overwrite (overwrite s at p) (at + length p) q
overwrite_append s at [] q = rw (overwrite_nil, add-zero at)
overwrite_append s at (x ∷ p) q =
    let place : suc at + length p ≡ at + suc (length p) = omega arith in
    rw (overwrite_cons s at x (p ++ q), overwrite_cons s at x p, overwrite_append (set s at x) (suc at) p q, place)

-- Setting an octet before a place, and writing octets from that place on, may be done in either order.
set_before : (s : List ℕ) (i at x : ℕ) (p : List ℕ) → i < at → set (overwrite s at p) i x ≡ overwrite (set s i x) at p
set_before s i at x [] l = rw (overwrite_nil, overwrite_nil)
set_before s i at x (y ∷ p) l =
    rw (overwrite_cons s at y p, overwrite_cons (set s i x) at y p, set_before (set s at y) i (suc at) x p (omega arith), set_comm s at i y x (λ q. omega arith))

-- The second part may be written before the first part.
pub overwrite_before : (s : List ℕ) (at : ℕ) (p q : List ℕ) → overwrite (overwrite s (at + length p) q) at p ≡ overwrite s at (p ++ q)
overwrite_before s at [] q = overwrite_nil (overwrite s (at + 0) q) at ∙ ap (λ (k : ℕ). overwrite s k q) (add-zero at)
overwrite_before s at (x ∷ p) q =
    let place : at + length (x ∷ p) ≡ suc at + length p = omega arith in
    overwrite_cons (overwrite s (at + length (x ∷ p)) q) at x p
    ∙ ap (λ (l : List ℕ). overwrite l (suc at) p) (set_before s at (at + length (x ∷ p)) x q (omega arith))
    ∙ ap (λ (k : ℕ). overwrite (overwrite (set s at x) k q) (suc at) p) place
    ∙ overwrite_before (set s at x) (suc at) p q
    ∙ sym (overwrite_cons s at x (p ++ q))

-- Writing q over the first part of p ++ r gives q ++ r.
pub overwrite_again : (s : List ℕ) (at : ℕ) (p q r : List ℕ) → length p ≡ length q → overwrite (overwrite s at (p ++ r)) at q ≡ overwrite s at (q ++ r)
overwrite_again s at [] [] r e = overwrite_nil (overwrite s at r) at
overwrite_again s at [] (y ∷ q) r e = absurd (omega arith)
overwrite_again s at (x ∷ p) [] r e = absurd (omega arith)
overwrite_again s at (x ∷ p) (y ∷ q) r e =
    overwrite_cons (overwrite s at (x ∷ p ++ r)) at y q
    ∙ ap (λ (l : List ℕ). overwrite (set l at y) (suc at) q) (overwrite_cons s at x (p ++ r))
    ∙ ap (λ (l : List ℕ). overwrite l (suc at) q) (set_before (set s at x) at (suc at) y (p ++ r) (omega arith))
    ∙ ap (λ (l : List ℕ). overwrite (overwrite l (suc at) (p ++ r)) (suc at) q) (set-set s at x y)
    ∙ overwrite_again (set s at y) (suc at) p q r (omega arith)
    ∙ sym (overwrite_cons s at y (q ++ r))

pub length_number_octets : (n x : ℕ) → length (number_octets n x) ≡ n
unfolding number_octets
length_number_octets zero x = refl
length_number_octets (suc n) x = ap suc (length_number_octets n (x / 256))

pub length_field_octets : (ws xs : List ℕ) → length ws ≡ length xs → length (field_octets ws xs) ≡ total ws
unfolding field_octets total
length_field_octets [] xs e = refl
length_field_octets (w ∷ ws) [] e = absurd (omega arith)
length_field_octets (w ∷ ws) (x ∷ xs) e =
    length-append (number_octets w x) (field_octets ws xs) ∙ ap₂ ◌+◌ (length_number_octets w x) (length_field_octets ws xs (omega arith))

pub octet_itself : (x : ℕ) → x < 256 → number_octets 1 x ≡ x ∷ []
unfolding number_octets
octet_itself x l = let e : x % 256 ≡ x = omega arith in ap (λ (v : ℕ). v ∷ []) e

-- The clause of `field_octets` as an equation.
pub field_octets_cons : (w : ℕ) (ws : List ℕ) (x : ℕ) (xs : List ℕ) → field_octets (w ∷ ws) (x ∷ xs) ≡ number_octets w x ++ field_octets ws xs
unfolding field_octets
field_octets_cons w ws x xs = refl

pub field_octets_append : (ws vs xs ys : List ℕ) → length ws ≡ length xs → field_octets (ws ++ vs) (xs ++ ys) ≡ field_octets ws xs ++ field_octets vs ys
unfolding field_octets
field_octets_append [] vs [] ys e = refl
field_octets_append [] vs (x ∷ xs) ys e = absurd (omega arith)
field_octets_append (w ∷ ws) vs [] ys e = absurd (omega arith)
field_octets_append (w ∷ ws) vs (x ∷ xs) ys e =
    ap (λ (l : List ℕ). number_octets w x ++ l) (field_octets_append ws vs xs ys (omega arith))
    ∙ sym (append_assoc (number_octets w x) (field_octets ws xs) (field_octets vs ys))

-- Writing fields is writing their octets over what stood there.
pub fields_overwrite : (ws s : List ℕ) (at o : ℕ) (xs : List ℕ) → with_fields ws s at o xs ≡ overwrite s (at + o) (field_octets ws xs)
unfolding with_fields with_number field_octets
fields_overwrite [] s at o xs = sym (overwrite_nil s (at + o))
fields_overwrite (w ∷ ws) s at o [] = sym (overwrite_nil s (at + o))
fields_overwrite (w ∷ ws) s at o (x ∷ xs) =
    let place : at + (o + w) ≡ at + o + length (number_octets w x) = omega (arith, length_number_octets w x) in
    fields_overwrite ws (overwrite s (at + o) (number_octets w x)) at (o + w) xs
    ∙ ap (λ (k : ℕ). overwrite (overwrite s (at + o) (number_octets w x)) k (field_octets ws xs)) place
    ∙ sym (overwrite_append s (at + o) (number_octets w x) (field_octets ws xs))

-- For a loop that writes octets: writing what is left gives the whole result g.
pub overwrite_start : (s : List ℕ) (at : ℕ) (p : List ℕ) → overwrite s (at + 0) (drop 0 p) ≡ overwrite s at p
overwrite_start s at p = rw (add-zero at)

pub overwrite_more : (s p g : List ℕ) (at j x : ℕ) → j < length p → x ≡ get_or p j 0 → overwrite s (at + j) (drop j p) ≡ g
    → overwrite (set s (at + j) x) (at + (j + 1)) (drop (j + 1) p) ≡ g
overwrite_more s p g at j x l e h =
    let place : at + (j + 1) ≡ suc (at + j) = omega arith in
    rw (place, add-one, e) (rw (drop-cons p j 0 l, overwrite_cons) at h)

pub overwrite_ended : (s p g : List ℕ) (at j : ℕ) → length p ≤ j → overwrite s (at + j) (drop j p) ≡ g → s ≡ g
overwrite_ended s p g at j l h = rw (drop_of_length-le p l, overwrite_nil) at h

-- ---- read from a longer list

number_after : (n : ℕ) (p s : List ℕ) (at : ℕ) → number_at n (p ++ s) (length p + at) ≡ number_at n s at
unfolding number_at
number_after zero p s at = refl
number_after (suc n) p s at =
    let place : suc (length p + at) ≡ length p + suc at = omega arith in
    ap₂ (λ (b x : ℕ). b + 256 * x) (get_or-append-add p s at 0) (ap (λ (k : ℕ). number_at n (p ++ s) k) place ∙ number_after n p s (suc at))

number_read : (n x : ℕ) (q : List ℕ) → x < 256 ^ n → number_at n (number_octets n x ++ q) 0 ≡ x
unfolding number_at number_octets
number_read zero x q b = omega arith
number_read (suc n) x q b =
    let b' : x < 256 ^ n * 256 = rw pow-suc at b in
    let rest = number_after n (x % 256 ∷ []) (number_octets n (x / 256) ++ q) 0 ∙ number_read n (x / 256) q (omega arith) in
    omega arith

-- Reading the octets of fields returns the fields, whatever stands before and after them.
pub fields_read : (ws xs p q : List ℕ) (at o : ℕ) → at + o ≡ length p → FitFields ws xs → fields_at ws (p ++ (field_octets ws xs ++ q)) at o ≡ xs
unfolding fields_at field_octets FitFields
fields_read [] [] p q at o e f = refl
fields_read [] (x ∷ xs) p q at o e f = absurd f
fields_read (w ∷ ws) [] p q at o e f = absurd f
fields_read (w ∷ ws) (x ∷ xs) p q at o e f =
    ap₂ ◌∷◌
    (ap (λ (k : ℕ). number_at w (p ++ ((number_octets w x ++ field_octets ws xs) ++ q)) k) (e ∙ sym (add-zero (length p)))
    ∙ number_after w p ((number_octets w x ++ field_octets ws xs) ++ q) 0
    ∙ ap (λ (l : List ℕ). number_at w l 0) (append_assoc (number_octets w x) (field_octets ws xs) q)
    ∙ number_read w x (field_octets ws xs ++ q) f.0)
    (ap (λ (l : List ℕ). fields_at ws l at (o + w)) regroup
    ∙ fields_read ws xs (p ++ number_octets w x) q at (o + w) (omega (arith, length-append p (number_octets w x), length_number_octets w x)) f.1)
  where
    regroup : p ++ ((number_octets w x ++ field_octets ws xs) ++ q) ≡ (p ++ number_octets w x) ++ (field_octets ws xs ++ q)
    regroup =
        ap (λ (l : List ℕ). p ++ l) (append_assoc (number_octets w x) (field_octets ws xs) q)
        ∙ sym (append_assoc p (number_octets w x) (field_octets ws xs ++ q))

-- ---- rebuilt from what was read

number_made : (n : ℕ) (s : List ℕ) (at : ℕ) → Octets s → at + n ≤ length s → number_octets n (number_at n s at) ≡ take n (drop at s)
unfolding number_at number_octets Octets
number_made zero s at o h = refl
number_made (suc n) s at o h =
    let x : ℕ = number_at n s (suc at) in
    let b : get_or s at 0 < 256 = o at in
    let low : (get_or s at 0 + 256 * x) % 256 ≡ get_or s at 0 = omega arith in
    let high : (get_or s at 0 + 256 * x) / 256 ≡ x = omega arith in
    ap₂ (λ (v w : ℕ). v ∷ number_octets n w) low high
    ∙ ap (λ (l : List ℕ). get_or s at 0 ∷ l) (number_made n s (suc at) o (omega arith))
    ∙ ap (λ (l : List ℕ). take (suc n) l) (sym (drop-cons s at 0 (omega arith)))

-- The octets of fields that were read are the octets that they were read from.
pub fields_made : (ws s : List ℕ) (at o : ℕ) → Octets s → at + o + total ws ≤ length s → field_octets ws (fields_at ws s at o) ≡ take (total ws) (drop (at + o) s)
unfolding fields_at field_octets total
fields_made [] s at o h l = refl
fields_made (w ∷ ws) s at o h l =
    let place : at + (o + w) ≡ at + o + w = omega arith in
    ap₂ ◌++◌ (number_made w s (at + o) h (omega arith)) (fields_made ws s at (o + w) h (omega arith))
    ∙ ap (λ (k : ℕ). take w (drop (at + o) s) ++ take (total ws) (drop k s)) place
    ∙ ap (λ (r : List ℕ). take w (drop (at + o) s) ++ take (total ws) r) (sym (drop-drop w (at + o) s))
    ∙ sym (take-add w (total ws) (drop (at + o) s))

-- ---- octets

pub octets_nil : Octets []
unfolding Octets
octets_nil k = omega arith

pub octets_cons : (x : ℕ) (s : List ℕ) → x < 256 → Octets s → Octets (x ∷ s)
unfolding Octets
octets_cons x s l o zero = l
octets_cons x s l o (suc k) = o k

pub octets_append : (p q : List ℕ) → Octets p → Octets q → Octets (p ++ q)
unfolding Octets
octets_append [] q o h k = h k
octets_append (x ∷ p) q o h zero = o zero
octets_append (x ∷ p) q o h (suc k) = octets_append p q (λ j. o (suc j)) h k

pub octets_drop : (n : ℕ) (s : List ℕ) → Octets s → Octets (drop n s)
unfolding Octets
octets_drop n s o k = rw (get_or-drop n s k 0) (o (n + k))

pub octets_of_number : (n x : ℕ) → Octets (number_octets n x)
unfolding number_octets
octets_of_number zero x = octets_nil
octets_of_number (suc n) x = octets_cons (x % 256) (number_octets n (x / 256)) (omega arith) (octets_of_number n (x / 256))

pub octets_of_fields : (ws xs : List ℕ) → Octets (field_octets ws xs)
unfolding field_octets
octets_of_fields [] xs = octets_nil
octets_of_fields (w ∷ ws) [] = octets_nil
octets_of_fields (w ∷ ws) (x ∷ xs) = octets_append (number_octets w x) (field_octets ws xs) (octets_of_number w x) (octets_of_fields ws xs)
