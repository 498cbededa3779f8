-- Defines what makes octets a table, what can be read from a table, and what calls do to it. PROTOCOL, 'Table'. What is defined
-- here:
--   own, number, request_id, clock         the fields of the head
--   vacant, holds, find_row, row_for       rows by destination, and the row held for a destination
--   active_next                            the next hop of a row that is there and active
--   free_rows, first_free, new_rows        free rows, and how many new rows a destination needs
--   alone, passes, is_table                what refusal 21 asks
--   fresh, store, freed, change_where      a fresh table; a row stored; a row freed; the rows that pass a test changed
use Rattle.std.specs.Prelude.{◌≡◌, ℕ, zero, suc, Bool, ◌&&◌, ◌||◌, not, cond, List, eqb, Option, None, Some}
use Rattle.counters.specs.declared.SequenceNumber.{SequenceNumber}
use Rattle.counters.specs.declared.RequestId.{RequestId}
use Rattle.octets.specs.LittleEndian.{zeros}
use Rattle.layout.specs.declared.address.Address.{Address}
use Rattle.layout.specs.declared.row.Row.{Row}
use Rattle.layout.specs.Address.{same}
use Rattle.layout.specs.Row.{fresh_head, free_row, head_ok, row_ok, active}
use Rattle.layout.specs.Layout.{rows, head_at, put_head, row_at, put_row}
use Rattle.std.specs.Prelude.{is_none, option_map}
use Rattle.std.specs.Option.{option_or}
use Rattle.table.specs.Places.{first, count, every}

-- ---- the head

abbrev pub own : List ℕ → Address
own t = (head_at t).own

abbrev pub number : List ℕ → SequenceNumber
number t = (head_at t).number

abbrev pub request_id : List ℕ → RequestId
request_id t = (head_at t).request

abbrev pub clock : List ℕ → ℕ
clock t = (head_at t).clock

-- ---- rows by destination

-- Reports whether row i is free, by its status. Refusal 21 asks that the rest of a free row is zero.
unfoldable pub vacant : List ℕ → ℕ → Bool
vacant t i = eqb (row_at t i).status 0

-- Reports whether row i is held for d.
unfoldable pub holds : List ℕ → Address → ℕ → Bool
holds t d i = same (row_at t i).destination d && not (vacant t i)

-- Returns the place of the row held for d.
unfoldable pub find_row : List ℕ → Address → Option ℕ
find_row t d = first (holds t d) (rows t)

abbrev pub row_in : List ℕ → Option ℕ → Option Row
row_in t found = option_map (row_at t) found

-- Returns the row held for d.
unfoldable pub row_for : List ℕ → Address → Option Row
row_for t d = row_in t (find_row t d)

-- Returns the next hop of a row that is there and active at clock c, or None.
unfoldable pub active_next : ℕ → Option Row → Option Address
active_next c None = None
active_next c (Some r) = cond (active c r) (Some r.next) None

-- Returns how many new rows a destination needs: 0 if a row is held for it, 1 if none is.
abbrev pub new_rows : Option Row → ℕ
new_rows (Some r) = 0
new_rows None = 1

-- Returns how many rows are free.
unfoldable pub free_rows : List ℕ → ℕ
free_rows t = count (vacant t) (rows t)

-- Returns the lowest place of a free row.
unfoldable pub first_free : List ℕ → Option ℕ
first_free t = first (vacant t) (rows t)

-- ---- refusal 21: the octets are a table

-- Reports whether row i is free, or no row before it is held for its destination.
unfoldable pub alone : List ℕ → ℕ → Bool
alone t i = vacant t i || is_none (first (holds t (row_at t i).destination) i)

-- Reports whether row i is legal in the table of the point with address `self`, and stands alone.
abbrev pub passes : List ℕ → Address → ℕ → Bool
passes t self i = row_ok self (row_at t i) && alone t i

-- Octets are a table if the head and each row are legal, and the destinations of any two held rows differ.
unfoldable pub is_table : List ℕ → Bool
is_table t = head_ok (head_at t) && every (passes t (own t)) (rows t)

-- ---- what calls do to a table

-- Returns a fresh table of the given number of octets.
unfoldable pub fresh : ℕ → Address → SequenceNumber → List ℕ
fresh octets address sequence = put_head (zeros octets) (fresh_head address sequence)

abbrev pub put_at : List ℕ → Row → Option ℕ → List ℕ
put_at t r (Some i) = put_row t i r
put_at t r None = t

-- Returns the place for a row with destination d: the place of the row held for d, or the lowest place of a free row if no row is
-- held for d.
unfoldable pub place_for : List ℕ → Address → Option ℕ
place_for t d = option_or (find_row t d) (first_free t)

unfoldable pub store : List ℕ → Row → List ℕ
store t r = put_at t r (place_for t r.destination)

-- Frees the row held for d.
unfoldable pub freed : List ℕ → Address → List ℕ
freed t d = put_at t free_row (find_row t d)

-- Changes row i by f if it passes the test p.
abbrev pub change_at : (Row → Bool) → (Row → Row) → ℕ → List ℕ → List ℕ
change_at p f i t = cond (p (row_at t i)) (put_row t i (f (row_at t i))) t

-- Changes by f each row below n that passes the test p.
unfoldable pub change_below : (Row → Bool) → (Row → Row) → ℕ → List ℕ → List ℕ
change_below p f zero t = t
change_below p f (suc n) t = change_at p f n (change_below p f n t)

-- Changes by f each row that passes the test p. Rows that fail the test stay as they are, octet by octet.
unfoldable pub change_where : (Row → Bool) → (Row → Row) → List ℕ → List ℕ
change_where p f t = change_below p f (rows t) t

-- States of a step, which relates a row to what the code makes of it, that it changes by f exactly the rows that pass the test p.
abbrev pub StepsBy : (Row → Option Row → Type 0) → (Row → Bool) → (Row → Row) → Type 0
StepsBy step p f = (r : Row) (o : Option Row) → step r o → o ≡ cond (p r) (Some (f r)) None
