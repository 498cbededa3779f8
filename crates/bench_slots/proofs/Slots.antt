-- Laws of frames in an output and in the slots.
use Prim.Native.Nat.{ℕ, suc, ◌+◌, ◌-◌, ◌*◌, ◌<◌, ◌≤◌}
use mathlib.Core.Path.{◌≡◌, sym, ap, subst, ◌∙◌}
use mathlib.Core.List.{List, ◌∷◌}
use lib.ListN.{length, get_or, set, take, drop, length-drop}
use lib.Seq.{get_or-drop, drop-drop}
use native.Mathlib.Omega.{arith}
use Rattle.octets.specs.LittleEndian.{overwrite}
use Rattle.rules.specs.Exit.{frames_in}
use Rattle.bench_slots.specs.Slots.{sender_of, element_of, put_frames, Holds}

-- ---- slots

module _ (s : List ℕ) (k : ℕ) where
  pub sender_read : (x : ℕ) → x ≡ get_or s (264 * k) 0 → x ≡ sender_of s k
  unfolding sender_of
  sender_read x e = e

  pub element_read : (x : ℕ) → x ≡ get_or s (264 * k + 7 + 1) 0 → take (264 * k + 7 + 2 + x - (264 * k + 7)) (drop (264 * k + 7) s) ≡ element_of s k
  unfolding element_of
  element_read x xe =
      let n : 264 * k + 7 + 2 + x - (264 * k + 7) ≡ 2 + x = omega arith in
      let m : 264 * k + 8 ≡ 264 * k + 7 + 1 = omega arith in
      rw (n, xe, m)

  pub frame_kept : (x : ℕ) (frame u v : List ℕ) → u ≡ set s (264 * k) x → v ≡ overwrite u (264 * k + 1) frame → v ≡ overwrite s (264 * k) (x ∷ frame)
  unfolding overwrite
  frame_kept x frame u v ue ve = let n : suc (264 * k) ≡ 264 * k + 1 = omega arith in rw (ve, ue, n)

-- ---- all frames of a call, kept one after another

-- g is the slots at the end.

module _ (output : List ℕ) (sender first n : ℕ) where
  -- Returns the frames from frame i on. They begin at place `at` of the output.
  abbrev left : ℕ → ℕ → List (List ℕ)
  left i at = frames_in (n - i) (drop at output)

  module _ (i at : ℕ) (h : Holds (n - i) (drop at output)) where
    module _ (l : i < n) where
      next_held : (8 + get_or output (at + 7) 0 ≤ length output - at) × Holds (n - (i + 1)) (drop (at + (8 + get_or output (at + 7) 0)) output)
      unfolding Holds
      next_held =
          let more : n - i ≡ suc (n - (i + 1)) = omega arith in
          let k : Holds (suc (n - (i + 1))) (drop at output) = subst (λ (m : ℕ). Holds m (drop at output)) more h in
          rw (get_or-drop at output 7 0, length-drop at output, drop-drop _ at output) at k

      pub next_begins : at ≤ length output → at + 8 ≤ length output
      next_begins inside = omega (arith, next_held.0)

      module _ (long : ℕ) (le : long ≡ 8 + get_or output (at + 7) 0) where
        pub next_ends : at ≤ length output → at + long ≤ length output
        next_ends inside = omega (arith, next_held.0)

        pub next_holds : Holds (n - (i + 1)) (drop (at + long) output)
        next_holds = rw le next_held.1

        pub keep_more : (slots g : List ℕ) → put_frames slots sender (first + i) (left i at) ≡ g → (slots' : List ℕ)
            → slots' ≡ overwrite slots (264 * (first + i)) (sender ∷ take (at + long - at) (drop at output))
            → put_frames slots' sender (first + (i + 1)) (left (i + 1) (at + long)) ≡ g
        unfolding put_frames frames_in
        keep_more slots g so_far slots' se =
            let more : n - i ≡ suc (n - (i + 1)) = omega arith in
            let next : first + (i + 1) ≡ first + i + 1 = omega arith in
            let taken : at + long - at ≡ long = omega arith in
            let told : 8 + get_or (drop at output) 7 0 ≡ long = ap (λ (x : ℕ). 8 + x) (get_or-drop at output 7 0) ∙ sym le in
            let here = ap (λ (m : ℕ). put_frames slots sender (first + i) (frames_in m (drop at output))) (sym more) ∙ so_far in
            let cut = rw told at here in
            rw (next, se, taken, ← drop-drop long at output) cut

  pub keep_ended : (slots g : List ℕ) (i at : ℕ) → put_frames slots sender (first + i) (left i at) ≡ g → n ≤ i → slots ≡ g
  unfolding put_frames frames_in
  keep_ended slots g i at so_far l =
      let none : n - i ≡ 0 = omega arith in
      ap (λ (m : ℕ). put_frames slots sender (first + i) (frames_in m (drop at output))) (sym none) ∙ so_far
