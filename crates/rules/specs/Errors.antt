-- Defines, for a received RERR and for a break, which rows the point invalidates, what becomes of them, and the RERRs that name
-- them. PROTOCOL, 'Errors and breaks'.
use Rattle.std.specs.Prelude.{ℕ, ◌+◌, ◌-◌, ◌*◌, ◌/◌, Bool, ◌&&◌, cond, eqb, length, take, drop, Option, None, Some, is_some}
use mathlib.Core.List.{List, [], ◌∷◌, flat_map}
use Rattle.counters.specs.declared.SequenceNumber.{SequenceNumber}
use Rattle.counters.specs.Numbers.{next_number, newer}
use Rattle.layout.specs.declared.address.Address.{Address}
use Rattle.layout.specs.declared.row.Row.{Row}
use Rattle.layout.specs.Address.{same}
use Rattle.layout.specs.Row.{is_through, invalidated, raised}
use Rattle.layout.specs.Layout.{rows, row_at}
use Rattle.table.specs.Table.{row_for}
use Rattle.element.specs.declared.Kind.TheVariants.{Rerr}
use Rattle.element.specs.declared.LostDestination.{LostDestination}
use Rattle.element.specs.declared.RerrFields.{RerrFields}
use Rattle.element.specs.Element.{rerr}
use Rattle.element.specs.Layout.{most}
use Rattle.element.specs.Entries.{each}
use Rattle.element.specs.Lists.{all_ones}
use Rattle.rules.specs.Lists.{is_some_and}
use Rattle.rules.specs.Exit.{Frame}

-- ---- a received RERR

-- Reports whether a row is active at clock c, of known number, and has the transmitter as its next hop.
unfoldable pub is_lost_by : ℕ → Address → Row → Bool
is_lost_by c transmitter r = is_through c transmitter r && eqb r.known 1

-- A match is a destination of the RERR whose row is active, of known number, and has the transmitter as its next hop.
unfoldable pub matches : List ℕ → ℕ → Address → LostDestination → Bool
matches t c transmitter m = is_some_and (is_lost_by c transmitter) (row_for t m.address)

-- Returns the number next to the destination d in the list of a RERR, or none if the list does not name d.
unfoldable pub number_beside : Address → List LostDestination → Option SequenceNumber
number_beside d [] = None
number_beside d (m ∷ named) = cond (same m.address d) (Some m.number) (number_beside d named)

-- Reports whether a row is the row of a match: `is_lost_by` holds for it, and the RERR names its destination.
unfoldable pub is_match : ℕ → Address → List LostDestination → Row → Bool
is_match c transmitter named r = is_lost_by c transmitter r && is_some (number_beside r.destination named)

-- The point invalidates the row of a match. If the number in the RERR is newer than the row's number, the row takes the newer
-- number and metric 4,294,967,295.
unfoldable pub erred_with : Option SequenceNumber → Row → Row
erred_with None r = r
erred_with (Some n) r = cond (newer n r.number) (raised n (invalidated r)) (invalidated r)

-- Returns the row of a match after a RERR that names these destinations.
unfoldable pub erred : List LostDestination → Row → Row
erred named r = erred_with (number_beside r.destination named) r

-- ---- a broken neighbour

-- The point invalidates a row that breaks. If the row's number is known, the point steps the number and sets the metric to
-- 4,294,967,295. A row of unknown number keeps its number 0 and its metric.
unfoldable pub broken : Row → Row
broken r = cond (eqb r.known 1) (raised (next_number r.number) (invalidated r)) (invalidated r)

-- The rows that break are the rows that pass `test`. For a broken neighbour, `test` holds for every active row whose next hop is
-- the neighbour.
module _ (test : Row → Bool) where
  -- Returns the entry for a row in a RERR, with the number that the row has after the break. A row that fails the test has none.
  unfoldable pub broken_entry : Row → List LostDestination
  broken_entry r = cond (test r) (record { address = r.destination; number = (broken r).number } ∷ []) []

  -- Returns the entries for all rows that break, in the order of the table.
  unfoldable pub broken_entries : List ℕ → List LostDestination
  broken_entries t = flat_map broken_entry (each (row_at t) 0 (rows t))

-- The RERRs of a break have flags 0.
abbrev pub own_error : RerrFields
own_error = record { flags = 0 }

-- Returns RERR i of a break, to all ones. It has the entries from number 25 * i on, at most 25.
unfoldable pub error_at : List LostDestination → ℕ → Frame
error_at entries i = record { receiver = all_ones; element = rerr own_error (take (most Rerr) (drop (most Rerr * i) entries)) }

-- Returns how many RERRs n destinations take.
abbrev pub errors_taken : ℕ → ℕ
errors_taken n = (n + (most Rerr - 1)) / most Rerr

-- Returns all RERRs of a break. Each RERR but the last names 25 destinations; the last names the rest, 1 to 25. Without entries
-- there is no frame.
unfoldable pub errors_for : List LostDestination → List Frame
errors_for entries = each (error_at entries) 0 (errors_taken (length entries))
