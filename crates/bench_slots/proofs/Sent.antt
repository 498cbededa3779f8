-- Laws of frames that are put into slots: the slots are octets still, and points sent all frames.
use Prim.Native.Nat.{ℕ, zero, suc, ◌+◌, ◌*◌, ◌<◌, ◌≤◌}
use mathlib.Core.Path.{◌≡◌, refl, sym, subst, ◌∙◌}
use mathlib.Core.List.{List, [], ◌∷◌}
use lib.ListN.{length, get_or, set, take, drop}
use lib.Seq.{sets, length-sets, get_or-set_same, get_or-set_other}
use native.Mathlib.Omega.{arith}
use native.Mathlib.Nat.{add-zero}
use borrow.Author.Count.{below_more}
use Rattle.octets.specs.LittleEndian.{overwrite, Octets}
use Rattle.octets.proofs.OctetLists.{octets_cons, octets_drop}
use Rattle.rules.specs.Exit.{frames_in}
use Rattle.bench_rules.proofs.Sound.{octets_take}
use Rattle.bench_slots.specs.Slots.{sender_of, put_frames, SentBelow}

-- ---- octets

octets_set : (s : List ℕ) (i x : ℕ) → x < 256 → Octets s → Octets (set s i x)
unfolding Octets
octets_set [] i x l o = o
octets_set (y ∷ s) zero x l o = octets_cons x s l (λ k. o (suc k))
octets_set (y ∷ s) (suc i) x l o = octets_cons y (set s i x) (o 0) (octets_set s i x l (λ k. o (suc k)))

octets_sets : (p s : List ℕ) (i : ℕ) → Octets p → Octets s → Octets (sets s i p)
unfolding Octets
octets_sets [] s i q o = o
octets_sets (x ∷ p) s i q o = octets_sets p (set s i x) (suc i) (λ k. q (suc k)) (octets_set s i x (q 0) o)

pub put_octets : (sender : ℕ) → sender < 256 → (n : ℕ) (output : List ℕ) → Octets output → (slots : List ℕ) (k : ℕ) → Octets slots
    → Octets (put_frames slots sender k (frames_in n output))
unfolding put_frames frames_in overwrite
put_octets sender l zero output q slots k o = o
put_octets sender l (suc n) output q slots k o =
    let long : ℕ = 8 + get_or output 7 0 in
    let kept : List ℕ = sender ∷ take long output in
    put_octets sender l n (drop long output) (octets_drop long output q) (overwrite slots (264 * k) kept) (k + 1)
    (octets_sets kept slots (264 * k) (octets_cons sender (take long output) l (octets_take long output q)) o)

-- ---- senders

-- What is written from a place on leaves the octets before it.
sets_before : (p s : List ℕ) (at i : ℕ) → i < at → get_or (sets s at p) i 0 ≡ get_or s i 0
sets_before [] s at i l = refl
sets_before (x ∷ p) s at i l = sets_before p (set s at x) (suc at) i (omega arith) ∙ get_or-set_other s at i x 0 (λ e. omega (arith, e))

module _ (points sender : ℕ) (is-point : sender < points) where
  one_sent : (slots : List ℕ) (k : ℕ) → 264 * k < length slots → (frame : List ℕ) → SentBelow points k slots
      → SentBelow points (k + 1) (overwrite slots (264 * k) (sender ∷ frame))
  unfolding overwrite sender_of
  one_sent slots k long frame sent =
      below_more (λ (i : ℕ). sender_of (sets slots (264 * k) (sender ∷ frame)) i < points) k
      (λ i l. subst (λ (x : ℕ). x < points) (sym (sets_before (sender ∷ frame) slots (264 * k) (264 * i) (omega arith))) (sent i l))
      (subst (λ (x : ℕ). x < points)
      (sym (sets_before frame (set slots (264 * k) sender) (suc (264 * k)) (264 * k) (omega arith) ∙ get_or-set_same slots (264 * k) sender 0 long))
      is-point)

  pub frames_sent : (n : ℕ) (output slots : List ℕ) (k : ℕ) → length slots ≡ 33792 → k + n ≤ 128 → SentBelow points k slots
      → SentBelow points (k + n) (put_frames slots sender k (frames_in n output))
  unfolding put_frames frames_in overwrite
  frames_sent zero output slots k long few sent = subst (λ (m : ℕ). SentBelow points m slots) (sym (add-zero k)) sent
  frames_sent (suc n) output slots k long few sent =
      let octets : ℕ = 8 + get_or output 7 0 in
      let kept : List ℕ = sender ∷ take octets output in
      let slots' : List ℕ = overwrite slots (264 * k) kept in
      let place : k + 1 + n ≡ k + suc n = omega arith in
      subst (λ (m : ℕ). SentBelow points m (put_frames slots' sender (k + 1) (frames_in n (drop octets output)))) place
      (frames_sent n (drop octets output) slots' (k + 1) (length-sets slots (264 * k) kept ∙ long) (omega arith)
      (one_sent slots k (omega (arith, long)) (take octets output) sent))
