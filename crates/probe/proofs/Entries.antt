-- Laws of entries written one by one by the loops of this crate: each entry takes w places.
use Prim.Native.Nat.{ℕ, ◌+◌, ◌-◌, ◌*◌, ◌<◌}
use mathlib.Core.Path.{◌≡◌, ap, ◌∙◌}
use mathlib.Core.List.{List, flat_map}
use lib.ListN.{length}
use native.Mathlib.Omega.{arith}
use Rattle.octets.specs.LittleEndian.{overwrite}
use Rattle.element.specs.Entries.{each}
use Rattle.writing.proofs.Written.{entries_more}

module _ {A : Type 0} (write : A → List ℕ) (w : ℕ) where
  -- States that writing the entries from i on gives the whole list.
  abbrev pub Left : (entry : ℕ → A) (n at : ℕ) (s₀ s : List ℕ) (i : ℕ) → Type 0
  Left entry n at s₀ s i =
      (length s ≡ length s₀) × (overwrite s (at + w * i) (flat_map write (each entry i (n - i))) ≡ overwrite s₀ at (flat_map write (each entry 0 n)))

  pub entry_more : ((x : A) → length (write x) ≡ w) → (entry : ℕ → A) (n : ℕ) (s t g : List ℕ) (i at : ℕ) → i < n → (x : A) → x ≡ entry i
      → t ≡ overwrite s (at + w * i) (write x) → overwrite s (at + w * i) (flat_map write (each entry i (n - i))) ≡ g
      → overwrite t (at + w * (i + 1)) (flat_map write (each entry (i + 1) (n - (i + 1)))) ≡ g
  entry_more long entry n s t g i at l x xe te =
      entries_more write entry n s t g i (at + w * i) (at + w * (i + 1)) l (te ∙ ap (λ (y : A). overwrite s (at + w * i) (write y)) xe)
      (rw (long (entry i)) (omega arith))
