-- Laws of marking the addresses that a loop has met. An address whose mark is not set was not met. Addresses are given by index.
use Prim.Native.Nat.{ℕ, ◌+◌, ◌*◌, ◌/◌, ◌%◌, ◌^◌, ◌<◌, ◌≤◌}
use mathlib.Core.Bool.{Bool, true, false}
use lib.Bits.{and_le_r}
use mathlib.Core.Path.{◌≡◌, sym, ◌∙◌}
use mathlib.Core.List.{List}
use lib.ListN.{length, get_or, set}
use lib.Seq.{get_or-set_same, get_or-set_other}
use native.Mathlib.Decide.{ℕ_discrete}
use native.Mathlib.Omega.{arith}
use Rattle.std.proofs.lemmas.Bool.{false≢true}
use Rattle.layout.specs.Marks.{mark}
use Rattle.layout.specs.declared.address.Address.{Address}

-- States that the addresses from one index up to another are marked.
pub record Marked (f : ℕ → Address) (seen : List Bool) (last from to : ℕ) : Type 0 where
  pub marks : (k : ℕ) → from ≤ k → k < to → get_or seen (mark last (f k)) false ≡ false → ⊥

pub mark_in : (a : Address) (seen : List Bool) (last h : ℕ) → h ≡ mark last a → length seen ≡ last + 1 → h < length seen
unfolding mark
mark_in a seen last h e l = omega (arith, e, and_le_r (a.0 % 2 ^ 48 * 40503 / 2 ^ 40) last)

pub marked_none : (f : ℕ → Address) (seen : List Bool) (last n : ℕ) → Marked f seen last n n
marked_none f seen last n = record { marks = λ k l g. absurd (omega (arith, l, g)) }

-- Setting a mark sets it, and the marks that were set stay set.
set_mark : (seen : List Bool) (h : ℕ) → h < length seen → get_or (set seen h true) h false ≡ false → ⊥
set_mark seen h l z = false≢true (sym z ∙ get_or-set_same seen h true false l)

kept_mark : (seen : List Bool) (h x : ℕ) → h < length seen → (get_or seen x false ≡ false → ⊥) → get_or (set seen h true) x false ≡ false → ⊥
kept_mark seen h x l m z = by (ℕ_discrete x h)
  where
    by : Dec (x ≡ h) → ⊥
    by (yes q) = set_mark seen h l (rw q at z)
    by (no q) = m (sym (get_or-set_other seen h x true false q) ∙ z)

module _ (f : ℕ → Address) (seen : List Bool) (last from to h : ℕ) (le : length seen ≡ last + 1) where
  -- After the mark of address j is set, address j and the addresses marked before are marked.
  joined : Marked f seen last from to → (j k : ℕ) → h ≡ mark last (f j) → ((k ≡ j → ⊥) → (from ≤ k) × (k < to))
      → get_or (set seen h true) (mark last (f k)) false ≡ false → ⊥
  joined m j k he before = by (ℕ_discrete k j)
    where
      within : h < length seen
      within = mark_in (f j) seen last h he le

      by : Dec (k ≡ j) → get_or (set seen h true) (mark last (f k)) false ≡ false → ⊥
      by (yes q) = rw (q, ← he) (set_mark seen h within)
      by (no q) = kept_mark seen h (mark last (f k)) within (m.marks k (before q).0 (before q).1)

  -- Marks one more address above the marked ones, or one more below them.
  pub marked_up : Marked f seen last from to → h ≡ mark last (f to) → Marked f (set seen h true) last from (to + 1)
  marked_up m he = record { marks = λ k l g. joined m to k he (λ q. (l, omega (arith, g, q))) }

  pub marked_down : (i : ℕ) → from ≡ i + 1 → Marked f seen last from to → h ≡ mark last (f i) → Marked f (set seen h true) last i to
  marked_down i is m he = record { marks = λ k l g. joined m i k he (λ q. (omega (arith, is, l, q), g)) }

-- An address whose mark is not set is none of the marked addresses.
pub unmarked : (f : ℕ → Address) (seen : List Bool) (last from to : ℕ) → Marked f seen last from to → (a : Address) (h : ℕ) → h ≡ mark last a
    → get_or seen h false ≡ false → (k : ℕ) → from ≤ k → k < to → (f k).0 ≡ a.0 → ⊥
unfolding mark
unmarked f seen last from to m a h he e k l g q = m.marks k l g (rw (q, ← he) e)
