-- Defines where the head and the rows stand in the octets of a table. PROTOCOL, 'Table'.
use Rattle.std.specs.Prelude.{ℕ, ◌+◌, ◌-◌, ◌*◌, ◌/◌, ◌%◌, ◌≤◌, Bool, true, ◌&&◌, List, [], ◌∷◌, length, get_or, eqb, leb}
use Rattle.octets.specs.LittleEndian.{fields_at, with_fields}
use Rattle.layout.specs.declared.row.Head.{Head}
use Rattle.layout.specs.declared.row.Row.{Row}

-- ---- sizes

-- The head has 32 octets, each row has 32 octets, and a table has at most 128 rows.
abbrev pub head_octets : ℕ
head_octets = 32

abbrev pub row_octets : ℕ
row_octets = 32

abbrev pub most_rows : ℕ
most_rows = 128

-- Returns the octet at which row i starts, after the head and the rows before it.
abbrev pub place : ℕ → ℕ
place i = head_octets + row_octets * i

-- Reports whether the length is that of a head and R rows, R from 1 to 128.
unfoldable pub sized : List ℕ → Bool
sized t = leb (place 1) (length t) && (leb (length t) (place most_rows) && eqb ((length t - head_octets) % row_octets) 0)

-- States that octets are long enough for a head, and no longer than a table of 128 rows. Functions that are lent a table require
-- it where they, or what they call, read or write its head, or count its rows up to 128. A struct that holds a table lent for
-- writing and this fact was tried: it holds a `&mut`, and each function that takes it must then promise that the struct still
-- holds the reference it came with, one clause for another. For a table lent for reading, a struct is no plainer where each
-- function makes one call (`Request` of crate destinations has one where several do): the caller would make a struct for that
-- call alone.
pub record Sized (t : List ℕ) : Type 0 where
  pub with_head : head_octets ≤ length t
  pub not_longer : length t ≤ place most_rows

-- Returns R, the number of rows.
abbrev pub rows : List ℕ → ℕ
rows t = (length t - head_octets) / row_octets

-- ---- the head: own address, zero, own number, request ID, latest clock, zero

abbrev pub head_widths : List ℕ
head_widths = 6 ∷ 2 ∷ 4 ∷ 4 ∷ 8 ∷ 8 ∷ []

abbrev pub head_of : List ℕ → Head
head_of xs =
    record {
      own = record { 0 = get_or xs 0 0 };
      zero2 = get_or xs 1 0;
      number = record { 0 = get_or xs 2 0 };
      request = record { 0 = get_or xs 3 0 };
      clock = get_or xs 4 0;
      zero8 = get_or xs 5 0;
    }

abbrev pub head_numbers : Head → List ℕ
head_numbers h = h.own.0 ∷ h.zero2 ∷ h.number.0 ∷ h.request.0 ∷ h.clock ∷ h.zero8 ∷ []

-- Returns the head of the table t.
unfoldable pub head_at : List ℕ → Head
head_at t = head_of (fields_at head_widths t 0 0)

-- Returns the table t with the head h.
unfoldable pub put_head : List ℕ → Head → List ℕ
put_head t h = with_fields head_widths t 0 0 (head_numbers h)

-- ---- a row: status, number known, hop count, zero, destination, next hop, number, metric, expiry

abbrev pub row_widths : List ℕ
row_widths = 1 ∷ 1 ∷ 1 ∷ 1 ∷ 6 ∷ 6 ∷ 4 ∷ 4 ∷ 8 ∷ []

abbrev pub row_of : List ℕ → Row
row_of xs =
    record {
      status = get_or xs 0 0;
      known = get_or xs 1 0;
      hops = record { 0 = get_or xs 2 0 };
      zero = get_or xs 3 0;
      destination = record { 0 = get_or xs 4 0 };
      next = record { 0 = get_or xs 5 0 };
      number = record { 0 = get_or xs 6 0 };
      metric = record { 0 = get_or xs 7 0 };
      expiry = get_or xs 8 0;
    }

abbrev pub row_numbers : Row → List ℕ
row_numbers r =
    r.status ∷ r.known ∷ r.hops.0 ∷ r.zero ∷ r.destination.0 ∷ r.next.0 ∷ r.number.0 ∷ r.metric.0 ∷ r.expiry ∷ []

unfoldable pub all_zero : List ℕ → Bool
all_zero [] = true
all_zero (x ∷ xs) = eqb x 0 && all_zero xs

-- Returns row i of the table t.
unfoldable pub row_at : List ℕ → ℕ → Row
row_at t i = row_of (fields_at row_widths t (place i) 0)

-- Returns the table t with r as its row i.
unfoldable pub put_row : List ℕ → ℕ → Row → List ℕ
put_row t i r = with_fields row_widths t (place i) 0 (row_numbers r)
