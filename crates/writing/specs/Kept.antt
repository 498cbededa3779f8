-- Defines what a caller keeps of the entries of a list part.
use Rattle.std.specs.Prelude.{ℕ, ◌/◌, ◌≡◌, List, length, Option, filter_map}
use Rattle.element.specs.Entries.{each}

-- States that a closure, which relates an entry to what the caller keeps of it, keeps what the function `keep` returns.
abbrev pub KeepsBy : {A : Type 0} → (A → Option A → Type 0) → (A → Option A) → Type 0
KeepsBy closure keep = (x : _) (o : Option _) → closure x o → o ≡ keep x

-- Returns what is kept of the entries of a list part, if an entry has `size` octets.
abbrev pub kept_in : {A : Type 0} → (entry_at : List ℕ → ℕ → A) → (size : ℕ) → (keep : A → Option A) → List ℕ → List A
kept_in entry_at size keep part = filter_map keep (each (entry_at part) 0 (length part / size))
