-- Defines the frames of the bench, as the code holds them. Each frame has a slot of 264 octets: the number of its sender (1), the
-- receiver address (6) and the element (at most 257).
use Rattle.std.specs.Prelude.{ℕ, zero, suc, ◌+◌, ◌*◌, ◌<◌, ◌≤◌, cond, List, [], ◌∷◌, length, get_or, take, drop}
use Rattle.octets.specs.LittleEndian.{overwrite}
use Rattle.element.specs.Entries.{each}
use Rattle.rules.specs.Decision.{◌above◌}
use Rattle.rules.specs.Exit.{frames_in}
use Rattle.bench_rules.specs.Bench.{KeptFrame}

-- Returns the number of the sender in slot k.
unfoldable pub sender_of : (slots : List ℕ) → (k : ℕ) → ℕ
sender_of slots k = get_or slots (264 * k) 0

-- Returns the element in slot k: ID, Length, and as many octets as Length says.
unfoldable pub element_of : (slots : List ℕ) → (k : ℕ) → List ℕ
element_of slots k = take (2 + get_or slots (264 * k + 8) 0) (drop (264 * k + 7) slots)

-- Returns the frame in slot k.
abbrev pub kept_at : (slots : List ℕ) → (k : ℕ) → KeptFrame
kept_at slots k = record { sender = sender_of slots k; element = element_of slots k }

-- Returns the frames in the first n slots.
abbrev pub kept_in : (slots : List ℕ) → (n : ℕ) → List KeptFrame
kept_in slots n = each (kept_at slots) 0 n

-- States that points below this number sent the frames in the first n slots.
abbrev pub SentBelow : (points n : ℕ) → (slots : List ℕ) → Type 0
SentBelow points n slots = (i : ℕ) → i < n → sender_of slots i < points

-- Returns the slots with these frames of a sender in slots k, k + 1 and so on.
unfoldable pub put_frames : (slots : List ℕ) → (sender k : ℕ) → List (List ℕ) → List ℕ
put_frames slots sender k [] = slots
put_frames slots sender k (f ∷ frames) = put_frames (overwrite slots (264 * k) (sender ∷ f)) sender (k + 1) frames

-- States that n whole frames, by their Length octets, stand at the start of s.
unfoldable pub Holds : (n : ℕ) → (s : List ℕ) → Type 0
Holds zero s = Unit {0}
Holds (suc n) s = (8 + get_or s 7 0 ≤ length s) × Holds n (drop (8 + get_or s 7 0) s)

-- Returns the slots after a call has emitted n frames, with `before` frames kept so far. If there would be a 129th frame, none
-- of the n frames is kept.
abbrev pub kept_slots : (slots : List ℕ) → (sender before n : ℕ) → (output : List ℕ) → List ℕ
kept_slots slots sender before n output =
    cond ((before + n) above 128) slots (put_frames slots sender before (frames_in n output))
