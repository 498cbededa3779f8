-- Laws of the RERRs of a break: written one destination after another and closed, they are the frames of the rules.
use Prim.Native.Nat.{ℕ, zero, suc, ◌+◌, ◌-◌, ◌*◌, ◌/◌, ◌%◌, ◌<◌, ◌≤◌}
use mathlib.Core.Path.{◌≡◌, refl, sym, ap, ap₂, ◌∙◌}
use mathlib.Core.Bool.{Bool, true, false, cond}
use mathlib.Core.List.{List, [], ◌∷◌, ◌++◌, append-nil, append_assoc, flat_map}
use lib.Dec.{eqb, ltb}
use lib.ListN.{length, take, drop, length-append, length-take, length-drop, take-append-drop, drop_of_length-le}
use lib.Seq.{take_all, drop-drop}
use native.Mathlib.Omega.{arith}
use native.Mathlib.Nat.{add-zero}
use borrow.Author.Tests.{eqb-true, eqb-false, eq-eqb, ne_eqb, ltb-true, ltb-false}
use Rattle.octets.specs.LittleEndian.{overwrite}
use Rattle.octets.proofs.OctetLists.{overwrite_append, overwrite_again}
use Rattle.element.specs.declared.Kind.TheVariants.{Rerr}
use Rattle.element.specs.declared.LostDestination.{LostDestination}
use Rattle.element.specs.Element.{rerr, rerr_numbers}
use Rattle.element.specs.Entries.{each, lost_octets}
use Rattle.element.specs.Lists.{all_ones}
use Rattle.element.specs.Octets.{frame_start, write_frame}
use Rattle.element.proofs.Sizes.{start_length}
use Rattle.element.proofs.Scans.{each_length}
use Rattle.element.proofs.ListParts.{loss_lists}
use Rattle.writing.proofs.Written.{frame_parts, lost_length}
use Rattle.rules.specs.Exit.{Frame, frame_octets}
use Rattle.rules.specs.Errors.{own_error, error_at, errors_taken, errors_for}
use Rattle.breaking.specs.Reports.{octets_for, error_start, begun_before, begun_after, filled_by, closed}

-- ---- as the proofs of the functions need it

start_long : (n : ℕ) → length (error_start n) ≡ 10
unfolding error_start
start_long n = start_length all_ones (rerr own_error []) n

pub begin_writes : (s t : List ℕ) (at n : ℕ) → t ≡ overwrite s at (frame_start all_ones Rerr n (rerr_numbers own_error)) → t ≡ overwrite s at (error_start n)
unfolding error_start
begin_writes s t at n e = e

before_long : (k : ℕ) → octets_for k + length (begun_before k) + 10 ≡ octets_for (suc k)
unfolding begun_before
before_long k = by (eqb (k % 25) 0) refl
  where
    by : (b : Bool) → eqb (k % 25) 0 ≡ b → octets_for k + length (cond b (error_start 25) []) + 10 ≡ octets_for (suc k)
    by true e = omega (arith, start_long 25, eqb-true (k % 25) 0 e)
    by false e = let apart = eqb-false (k % 25) 0 e in omega arith

module _ (k : ℕ) where
  before_none : (k % 25 ≡ 0 → ⊥) → begun_before k ≡ []
  unfolding begun_before
  before_none e = rw (ne_eqb (k % 25) 0 e)

  before_one : k % 25 ≡ 0 → begun_before k ≡ error_start 25
  unfolding begun_before
  before_one e = rw (eq-eqb (k % 25) 0 e)

-- Once k destinations are reported, the next one either begins a RERR or not. The RERRs begun so far hold f destinations.
module _ (k f : ℕ) (fe : f ≡ filled_by k) where
  module _ (apart : k ≡ f → ⊥) where
    inside : k % 25 ≡ 0 → ⊥
    inside z = apart (omega arith)

    pub next_same : (s : List ℕ) (at : ℕ) → s ≡ overwrite s at (begun_before k)
    unfolding overwrite
    next_same s at = rw (before_none k inside)

  module _ (same : k ≡ f) where
    filled : k % 25 ≡ 0
    filled = omega arith

    pub next_starts : (p : ℕ) → p ≡ octets_for k → (s t : List ℕ) → t ≡ overwrite s p (error_start 25)
        → t ≡ overwrite s (octets_for k) (begun_before k)
    next_starts p pe s t te = rw (before_one k filled, ← pe) te

  -- The last RERR has its count, or gets it.
  module _ (s : List ℕ) where
    pub close_none : k ≡ f → s ≡ closed s 0 k
    unfolding closed
    close_none same = rw (eq-eqb (k % 25) 0 (filled same))

    pub close_last : (p : ℕ) → p ≡ octets_for k → (k ≡ f → ⊥) → (t : List ℕ)
        → t ≡ overwrite s (p - (10 + 10 * (k + 25 - f))) (error_start (k + 25 - f)) → t ≡ closed s 0 k
    unfolding closed
    close_last p pe apart t te =
        let rest = inside apart in
        let count : k + 25 - f ≡ k % 25 = omega arith in
        let start : p - (10 + 10 * (k + 25 - f)) ≡ 0 + 260 * (k / 25) = omega arith in
        rw (ne_eqb (k % 25) 0 (inside apart)) (te ∙ ap₂ (λ (q n : ℕ). overwrite s q (error_start n)) start count)

-- ---- destinations one after another

begun_cons : (k : ℕ) (x : LostDestination) (l : List LostDestination) → begun_after k (x ∷ l) ≡ begun_before k ++ (lost_octets x ++ begun_after (suc k) l)
unfolding begun_after
begun_cons k x l = refl

pub begun_append : (k : ℕ) (l l' : List LostDestination) → begun_after k (l ++ l') ≡ begun_after k l ++ begun_after (k + length l) l'
unfolding begun_after
begun_append k [] l' = ap (λ (j : ℕ). begun_after j l') (sym (add-zero k))
begun_append k (x ∷ l) l' =
    let place : suc k + length l ≡ k + suc (length l) = omega arith in
    ap (λ (m : List ℕ). begun_before k ++ (lost_octets x ++ m)) (begun_append (suc k) l l' ∙ ap (λ (j : ℕ). begun_after (suc k) l ++ begun_after j l') place)
    ∙ ap (λ (m : List ℕ). begun_before k ++ m) (sym (append_assoc (lost_octets x) (begun_after (suc k) l) (begun_after (k + suc (length l)) l')))
    ∙ sym (append_assoc (begun_before k) (lost_octets x ++ begun_after (suc k) l) (begun_after (k + suc (length l)) l'))

-- Each destination takes ten octets, and each RERR that is begun takes ten more.
pub begun_length : (k : ℕ) (l : List LostDestination) → octets_for k + length (begun_after k l) ≡ octets_for (k + length l)
unfolding begun_after
begun_length k [] = omega arith
begun_length k (x ∷ l) =
    omega (
      arith,
      length-append (begun_before k) (lost_octets x ++ begun_after (suc k) l),
      length-append (lost_octets x) (begun_after (suc k) l),
      lost_length x,
      before_long k,
      begun_length (suc k) l,
    )

-- One destination follows k others, after a RERR is begun for it if one must be.
pub entry_added : (k p : ℕ) → p + 10 ≡ octets_for (k + 1) → (s t u : List ℕ) (x : LostDestination)
    → t ≡ overwrite s (octets_for k) (begun_before k) → u ≡ overwrite t p (lost_octets x) → u ≡ overwrite s (octets_for k) (begun_after k (x ∷ []))
unfolding begun_after
entry_added k p pe s t u x te ue =
    let place : p ≡ octets_for k + length (begun_before k) = omega (arith, before_long k) in
    ue ∙ ap₂ (λ (l : List ℕ) (n : ℕ). overwrite l n (lost_octets x)) te place
    ∙ sym (overwrite_append s (octets_for k) (begun_before k) (lost_octets x))
    ∙ ap (λ (l : List ℕ). overwrite s (octets_for k) (begun_before k ++ l)) (sym (append-nil (lost_octets x)))

-- After 25 more destinations the octets are as before.
begun_shift : (k : ℕ) (l : List LostDestination) → begun_after (k + 25) l ≡ begun_after k l
unfolding begun_after begun_before
begun_shift k [] = refl
begun_shift k (x ∷ l) =
    let again : (k + 25) % 25 ≡ k % 25 = omega arith in
    let next : suc (k + 25) ≡ suc k + 25 = omega arith in
    ap₂ (λ (r : ℕ) (m : List ℕ). cond (eqb r 0) (error_start 25) [] ++ (lost_octets x ++ m)) again
    (ap (λ (j : ℕ). begun_after j l) next ∙ begun_shift (suc k) l)

-- Inside a RERR nothing is begun.
begun_inside : (k : ℕ) (l : List LostDestination) → 1 ≤ k → k + length l ≤ 25 → begun_after k l ≡ flat_map lost_octets l
unfolding begun_after flat_map
begun_inside k [] one few = refl
begun_inside k (x ∷ l) one few =
    ap₂ (λ (b m : List ℕ). b ++ (lost_octets x ++ m)) (before_none k (λ e. omega arith)) (begun_inside (suc k) l (omega arith) (omega arith))

begun_first : (l : List LostDestination) → 1 ≤ length l → length l ≤ 25 → begun_after 0 l ≡ error_start 25 ++ flat_map lost_octets l
unfolding flat_map
begun_first [] one few = absurd (omega arith)
begun_first (x ∷ l) one few =
    begun_cons 0 x l ∙ ap₂ (λ (b m : List ℕ). b ++ (lost_octets x ++ m)) (before_one 0 refl) (begun_inside 1 l (omega arith) (omega arith))

-- ---- the frames of the rules

error_parts : (l : List LostDestination) → write_frame all_ones (rerr own_error l) ≡ error_start (length l) ++ flat_map lost_octets l
unfolding error_start
error_parts l = frame_parts all_ones (rerr own_error l)

error_later : (entries : List LostDestination) (i : ℕ) → error_at entries (suc i) ≡ error_at (drop 25 entries) i
unfolding error_at
error_later entries i =
    let place : 25 * suc i ≡ 25 + 25 * i = omega arith in
    ap (λ (l : List LostDestination). record { receiver = all_ones; element = rerr own_error (take 25 l) })
    (ap (λ (k : ℕ). drop k entries) place ∙ sym (drop-drop (25 * i) 25 entries))

errors_later : (entries : List LostDestination) (i n : ℕ) → each (error_at entries) (suc i) n ≡ each (error_at (drop 25 entries)) i n
unfolding each
errors_later entries i zero = refl
errors_later entries i (suc n) = ap₂ ◌∷◌ (error_later entries i) (errors_later entries (suc i) n)

-- The RERRs of a break are the RERR for the first 25 entries, and then the RERRs for the rest.
errors_next : (entries : List LostDestination) → 1 ≤ length entries → errors_for entries ≡ error_at entries 0 ∷ errors_for (drop 25 entries)
unfolding errors_for each
errors_next entries one =
    ap (each (error_at entries) 0) many ∙ ap (λ (l : List Frame). error_at entries 0 ∷ l) (errors_later entries 0 (errors_taken (length (drop 25 entries))))
  where
    many : errors_taken (length entries) ≡ suc (errors_taken (length (drop 25 entries)))
    many = omega (arith, length-drop 25 entries)

errors_none : errors_for [] ≡ []
unfolding errors_for each
errors_none = refl

errors_octets : (entries : List LostDestination) → 1 ≤ length entries
    → frame_octets (errors_for entries)
    ≡ (error_start (length (take 25 entries)) ++ flat_map lost_octets (take 25 entries)) ++ frame_octets (errors_for (drop 25 entries))
unfolding frame_octets flat_map error_at
errors_octets entries one =
    ap frame_octets (errors_next entries one) ∙ ap (λ (l : List ℕ). l ++ frame_octets (errors_for (drop 25 entries))) (error_parts (take 25 entries))

-- A property holds for all entries if it holds for none, and if it holds for any list whenever it holds for the entries after
-- the first 25.
by_25 : (P : List LostDestination → Type 0) → P [] → ((l : List LostDestination) → 1 ≤ length l → P (drop 25 l) → P l)
    → (n : ℕ) (l : List LostDestination) → length l ≤ 25 * n → P l
by_25 P none more zero l few = empty l (omega arith)
  where
    empty : (l : List LostDestination) → length l ≤ 0 → P l
    empty [] z = none
    empty (x ∷ l) z = absurd (omega arith)
by_25 P none more (suc n) l few = split l (by_25 P none more n (drop 25 l) (omega (arith, length-drop 25 l)))
  where
    split : (l : List LostDestination) → P (drop 25 l) → P l
    split [] h = none
    split (x ∷ l) h = more (x ∷ l) (omega arith) h

pub errors_many : (entries : List LostDestination) → length (errors_for entries) ≡ errors_taken (length entries)
unfolding errors_for
errors_many entries = each_length (error_at entries) 0 (errors_taken (length entries))

pub errors_long : (n : ℕ) (entries : List LostDestination) → length entries ≤ 25 * n → length (frame_octets (errors_for entries)) ≡ octets_for (length entries)
unfolding frame_octets flat_map
errors_long =
    by_25 (λ l. length (frame_octets (errors_for l)) ≡ octets_for (length l))
    (ap (λ (frames : List Frame). length (frame_octets frames)) errors_none) more
  where
    more : (l : List LostDestination) → 1 ≤ length l → length (frame_octets (errors_for (drop 25 l))) ≡ octets_for (length (drop 25 l))
        → length (frame_octets (errors_for l)) ≡ octets_for (length l)
    more l one rest =
        let first : List LostDestination = take 25 l in
        omega (
          arith,
          ap length (errors_octets l one),
          length-append (error_start (length first) ++ flat_map lost_octets first) (frame_octets (errors_for (drop 25 l))),
          length-append (error_start (length first)) (flat_map lost_octets first),
          start_long (length first),
          loss_lists.long first,
          length-take 25 l,
          length-drop 25 l,
          rest,
        )

-- ---- once closed, the octets are the frames of the rules

abbrev Closes : List LostDestination → Type 0
Closes entries = (s : List ℕ) (at : ℕ) → closed (overwrite s at (begun_after 0 entries)) at (length entries) ≡ overwrite s at (frame_octets (errors_for entries))

-- In a RERR that is not full, `closed` sets the count.
closes_last : (entries : List LostDestination) → 1 ≤ length entries → length entries < 25 → Closes entries
unfolding closed frame_octets flat_map
closes_last entries one few s at =
    let n : ℕ = length entries in
    let count : n % 25 ≡ n = omega arith in
    let place : at + 260 * (n / 25) ≡ at = omega arith in
    let whole : take 25 entries ≡ entries = take_all 25 entries (omega arith) in
    let few_at_most : length entries ≤ 25 = omega arith in
    let none : drop 25 entries ≡ [] = drop_of_length-le entries few_at_most in
    let begun : List ℕ = overwrite s at (begun_after 0 entries) in
    ap (λ (b : Bool). cond b begun (overwrite begun (at + 260 * (n / 25)) (error_start (n % 25)))) (ne_eqb (n % 25) 0 (λ e. omega arith))
    ∙ ap₂ (λ (p k : ℕ). overwrite begun p (error_start k)) place count
    ∙ ap (λ (l : List ℕ). overwrite (overwrite s at l) at (error_start n)) (begun_first entries one (omega arith))
    ∙ overwrite_again s at (error_start 25) (error_start n) (flat_map lost_octets entries) (start_long 25 ∙ sym (start_long n))
    ∙ ap (overwrite s at) (sym (errors_octets entries one
    ∙ ap₂ (λ (l r : List LostDestination). (error_start (length l) ++ flat_map lost_octets l) ++ frame_octets (errors_for r)) whole none
    ∙ ap (λ (frames : List Frame). (error_start n ++ flat_map lost_octets entries) ++ frame_octets frames) errors_none
    ∙ append-nil (error_start n ++ flat_map lost_octets entries)))

closed_later : (s : List ℕ) (at k j : ℕ) → k ≡ j + 25 → closed s at k ≡ closed s (at + 260) j
unfolding closed
closed_later s at k j e =
    let count : k % 25 ≡ j % 25 = omega arith in
    let place : at + 260 * (k / 25) ≡ at + 260 + 260 * (j / 25) = omega arith in
    ap₂ (λ (r p : ℕ). cond (eqb r 0) s (overwrite s p (error_start r))) count place

-- A full RERR stands as it was begun.
closes_full : (entries : List LostDestination) → 25 ≤ length entries → Closes (drop 25 entries) → Closes entries
closes_full entries many rest-closes s at =
    let first : List LostDestination = take 25 entries in
    let rest : List LostDestination = drop 25 entries in
    let full : List ℕ = error_start 25 ++ flat_map lost_octets first in
    let long : length first ≡ 25 = omega (arith, length-take 25 entries) in
    let after : 0 + length first ≡ 0 + 25 = omega arith in
    let size : length full ≡ 260 = omega (arith, length-append (error_start 25) (flat_map lost_octets first), start_long 25, loss_lists.long first) in
    let begun : begun_after 0 entries ≡ full ++ begun_after 0 rest =
    ap (begun_after 0) (sym (take-append-drop 25 entries)) ∙ begun_append 0 first rest
    ∙ ap₂ ◌++◌ (begun_first first (omega arith) (omega arith)) (ap (λ (k : ℕ). begun_after k rest) after ∙ begun_shift 0 rest) in
    let written : overwrite s at (begun_after 0 entries) ≡ overwrite (overwrite s at full) (at + 260) (begun_after 0 rest) =
    ap (overwrite s at) begun ∙ overwrite_append s at full (begun_after 0 rest) ∙ ap (λ (k : ℕ). overwrite (overwrite s at full) (at + k) (begun_after 0 rest)) size in
    ap (λ (l : List ℕ). closed l at (length entries)) written
    ∙ closed_later (overwrite (overwrite s at full) (at + 260) (begun_after 0 rest)) at (length entries) (length rest) (omega (arith, length-drop 25 entries))
    ∙ rest-closes (overwrite s at full) (at + 260)
    ∙ ap (λ (k : ℕ). overwrite (overwrite s at full) (at + k) (frame_octets (errors_for rest))) (sym size)
    ∙ sym (overwrite_append s at full (frame_octets (errors_for rest)))
    ∙ ap (overwrite s at) (sym (errors_octets entries (omega arith)
    ∙ ap (λ (k : ℕ). (error_start k ++ flat_map lost_octets first) ++ frame_octets (errors_for rest)) long))

pub closes : (n : ℕ) (entries : List LostDestination) → length entries ≤ 25 * n → (s : List ℕ) (at : ℕ)
    → closed (overwrite s at (begun_after 0 entries)) at (length entries) ≡ overwrite s at (frame_octets (errors_for entries))
unfolding closed begun_after frame_octets flat_map
closes = by_25 Closes (λ s at. ap (λ (frames : List Frame). overwrite s at (frame_octets frames)) (sym errors_none)) more
  where
    more : (l : List LostDestination) → 1 ≤ length l → Closes (drop 25 l) → Closes l
    more l one rest-closes = by (ltb (length l) 25) refl
      where
        by : (b : Bool) → ltb (length l) 25 ≡ b → Closes l
        by true e = closes_last l one (ltb-true (length l) 25 e)
        by false e = closes_full l (ltb-false (length l) 25 e) rest-closes
