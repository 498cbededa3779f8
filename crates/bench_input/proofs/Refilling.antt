-- Laws of the buffer: the unread octets are moved to its start, and more octets are read after them.
use Prim.Native.Nat.{ℕ, ◌+◌, ◌-◌, ◌≤◌}
use mathlib.Core.Path.{◌≡◌, ap, ◌∙◌}
use mathlib.Core.Bool.{Bool}
use mathlib.Core.List.{List, ◌++◌}
use lib.ListN.{length, take, drop, length-drop}
use lib.Seq.{paste, take-paste, take-add}
use native.Mathlib.Nat.{sub-zero}
use native.Mathlib.Omega.{arith}
use Rattle.bench_input.specs.declared.Cursor.{Cursor}
use Rattle.bench_input.specs.Reading.{left, Keeps, Extends}

-- ---- moved to the start

-- The unread octets are copied to the start.
pub moved_to_start : (buffer : List ℕ) (from filled : ℕ) → from ≤ filled → filled ≤ length buffer → (buffer' : List ℕ)
    → buffer' ≡ paste buffer 0 (drop from buffer) (filled - from) → take (filled - from) buffer' ≡ take (filled - from) (drop from buffer)
moved_to_start buffer from filled l inside buffer' e =
    let place : filled - from ≡ 0 + (filled - from) = omega arith in
    ap (λ (k : ℕ). take k buffer') place ∙ ap (take (0 + (filled - from))) e
    ∙ take-paste buffer 0 (drop from buffer) (filled - from) (omega arith) (omega (arith, inside, length-drop from buffer))

-- ---- read after them

-- n octets are moved to the start, and `got` octets are read after them.
module _ (c : Cursor) (buffer moved filled : List ℕ) (n got : ℕ) (ne : n ≡ c.filled - c.from)
    (ke : Keeps n moved filled)
    (me : take n moved ≡ take n (drop c.from buffer)) (last : Bool) where
  pub more_read : Extends (left c buffer) (left (record { from = 0; filled = n + got; last = last; offset = c.offset }) filled)
  more_read =
      record {
        more = take got (drop n filled);
        is = ap (λ (k : ℕ). take k filled) (sub-zero (n + got)) ∙ take-add n got filled
            ∙ ap (λ (s : List ℕ). s ++ take got (drop n filled)) (ke.first ∙ me ∙ ap (λ (k : ℕ). take k (drop c.from buffer)) ne);
      }
