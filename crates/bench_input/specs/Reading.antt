-- Defines the unread octets: the octets of the input that are in the buffer and not obeyed yet. Only contracts of the code use
-- the definitions of this file.
use Rattle.std.specs.Prelude.{ℕ, ◌+◌, ◌-◌, ◌≤◌, ◌≡◌, List, ◌++◌, length, take, drop}
use Rattle.bench_input.specs.declared.Cursor.{Cursor}

-- Returns the unread octets.
abbrev pub left : Cursor → (buffer : List ℕ) → List ℕ
left c buffer = take (c.filled - c.from) (drop c.from buffer)

-- Returns the cursor after the bench has obeyed `used` more octets.
abbrev pub past : Cursor → (used : ℕ) → Cursor
past c used = record { from = c.from + used; filled = c.filled; last = c.last; offset = c.offset + used }

-- States that the unread octets lie inside the buffer.
pub record Unread (c : Cursor) (buffer : List ℕ) : Type 0 where
  pub forward : c.from ≤ c.filled
  pub inside : c.filled ≤ length buffer

-- States that the first n octets of the buffer stay as they are.
pub record Keeps (n : ℕ) (buffer buffer' : List ℕ) : Type 0 where
  pub first : take n buffer' ≡ take n buffer

-- States that t is s followed by some octets, or by none.
pub record Extends (s t : List ℕ) : Type 0 where
  pub more : List ℕ
  pub is : t ≡ s ++ more
