-- Defines how sequence numbers and request IDs step, and which of two sequence numbers is newer or older. PROTOCOL, 'Counters'.
use Rattle.std.specs.Prelude.{ℕ, ◌+◌, ◌-◌, ◌%◌, ◌^◌, Bool, cond, ℤ, pos, negsuc, int_lt, nat_lt}
use Rattle.counters.specs.declared.SequenceNumber.{SequenceNumber}
use Rattle.counters.specs.declared.RequestId.{RequestId}

-- Steps a counter by adding one. After 4,294,967,295 comes 0.
unfoldable pub stepped : ℕ → ℕ
stepped n = (n + 1) % 2 ^ 32

abbrev pub next_number : SequenceNumber → SequenceNumber
next_number s = record { 0 = stepped s.0 }

abbrev pub next_request : RequestId → RequestId
next_request i = record { 0 = stepped i.0 }

-- Returns s - t, wrapped to 32 bits.
unfoldable pub wrapped : ℕ → ℕ → ℕ
wrapped s t = (s + 2 ^ 32 - t) % 2 ^ 32

-- Reads 32 bits as a signed number. `negsuc m` is -(m + 1).
abbrev pub signed : ℕ → ℤ
signed n = cond (nat_lt n (2 ^ 31)) (pos n) (negsuc (2 ^ 32 - 1 - n))

-- Number s is newer than t if s - t, wrapped to 32 bits and read as signed, is above 0.
unfoldable pub newer : SequenceNumber → SequenceNumber → Bool
newer s t = int_lt (pos 0) (signed (wrapped s.0 t.0))

-- Number s is older than t if s - t, wrapped to 32 bits and read as signed, is below 0.
unfoldable pub older : SequenceNumber → SequenceNumber → Bool
older s t = int_lt (signed (wrapped s.0 t.0)) (pos 0)
