-- Defines little-endian numbers in a list of octets, and runs of numbers side by side: the fields of a layout. PROTOCOL,
-- 'Counters'.
use Rattle.std.specs.Prelude.{ℕ, zero, suc, ◌+◌, ◌*◌, ◌/◌, ◌%◌, ◌<◌, List, [], ◌∷◌, ◌++◌, get_or, replicate}
use Rattle.std.proofs.lemmas.List.Edits.{sets}

-- Returns the number in the n octets of s from place `at` on, least significant octet first.
unfoldable pub number_at : ℕ → List ℕ → ℕ → ℕ
number_at zero s at = 0
number_at (suc n) s at = get_or s at 0 + 256 * number_at n s (suc at)

-- Returns the lowest n octets of x, least significant octet first.
unfoldable pub number_octets : ℕ → ℕ → List ℕ
number_octets zero x = []
number_octets (suc n) x = x % 256 ∷ number_octets n (x / 256)

-- Returns s with the octets p from place `at` on.
unfoldable pub overwrite : List ℕ → ℕ → List ℕ → List ℕ
overwrite s at p = sets s at p

-- Returns s with the lowest n octets of x from place `at` on.
unfoldable pub with_number : ℕ → List ℕ → ℕ → ℕ → List ℕ
with_number n s at x = overwrite s at (number_octets n x)

-- Returns the numbers in the fields of widths ws that stand side by side from offset o after place `at`. The offset is kept
-- apart from the place, so that the offsets of a given layout are numerals.
unfoldable pub fields_at : List ℕ → List ℕ → ℕ → ℕ → List ℕ
fields_at [] s at o = []
fields_at (w ∷ ws) s at o = number_at w s (at + o) ∷ fields_at ws s at (o + w)

-- Returns s with the numbers xs in the fields of widths ws that stand side by side from offset o after place `at`.
unfoldable pub with_fields : List ℕ → List ℕ → ℕ → ℕ → List ℕ → List ℕ
with_fields [] s at o xs = s
with_fields (w ∷ ws) s at o [] = s
with_fields (w ∷ ws) s at o (x ∷ xs) = with_fields ws (with_number w s (at + o) x) at (o + w) xs

-- Returns the octets of the numbers xs as fields of widths ws, side by side.
unfoldable pub field_octets : List ℕ → List ℕ → List ℕ
field_octets [] xs = []
field_octets (w ∷ ws) [] = []
field_octets (w ∷ ws) (x ∷ xs) = number_octets w x ++ field_octets ws xs

-- Returns how many octets the fields of widths ws take.
unfoldable pub total : List ℕ → ℕ
total [] = 0
total (w ∷ ws) = w + total ws

-- Returns n zero octets.
abbrev pub zeros : ℕ → List ℕ
zeros n = replicate n 0

-- States that every number in s is an octet.
unfoldable pub Octets : List ℕ → Type 0
Octets s = (k : ℕ) → get_or s k 0 < 256
