-- Defines the walk over tables side by side, along rows that are active at a clock. PROTOCOL, 'Walk'. The walk of demand 3 is
-- `met` in crate `theorems`, which follows valid rows, expired or not. What is defined here:
--   side_by_side, tables_in, points   whether octets are 1 to 16 tables of one length, the tables, and the points' addresses
--   Walked                            an answer with the hops walked: arrived (0), stopped (41) or too_long (42)
--   leads_to, follow                  where a next hop leads, and the walk from an address on
--   table_checks, walking, walk       the checks of the tables, the ruling and the decision
--   walked_at_exit                    the numbers that the call returns
use Rattle.refusals.specs.Numbers.{number_of}
use Rattle.rules.specs.Lists.{any}
use Rattle.refusals.specs.declared.Refusal.TheVariants.{TableLength, ClockTooLarge, BadAddress, BadList, NotATable, OldClock}
use Rattle.std.specs.Prelude.{ℕ, zero, suc, ◌+◌, ◌*◌, ◌/◌, ◌%◌, Bool, not, ◌&&◌, ◌||◌, cond, Err, Ok, Option, None, Some}
use Rattle.std.specs.Prelude.{List, [], ◌∷◌, map, eqb, leb, length, take, drop}
use Rattle.layout.specs.Row.{max_clock}
use Rattle.layout.specs.declared.address.Address.{Address}
use Rattle.layout.specs.declared.row.Row.{Row}
use Rattle.layout.specs.Address.{individual, same, address_of}
use Rattle.layout.specs.Layout.{sized}
use Rattle.table.specs.Table.{clock, is_table, row_for, active_next}
use Rattle.element.specs.Entries.{each}
use Rattle.element.specs.Lists.{contains, has_duplicate}
use Rattle.rules.specs.Decision.{Decision, Check, Ruling, decide, refuse◌when◌, ◌then◌, ◌above◌, ◌below◌, accept, ◌>>◌}

-- ---- 1 to 16 tables of one length, side by side

-- Returns the length of each table.
abbrev pub length_of_each : List ℕ → ℕ → ℕ
length_of_each octets count = length octets / count

-- Returns table i.
unfoldable pub table_at : List ℕ → ℕ → ℕ → List ℕ
table_at octets long i = take long (drop (long * i) octets)

abbrev pub tables_in : List ℕ → ℕ → List (List ℕ)
tables_in octets count = each (table_at octets (length_of_each octets count)) 0 count

-- Reports whether the octets pass refusal 1: the count is 1 to 16, and the octets are as many tables as the count says, all of
-- one length that a table may have. Whether each is a table is refusal 21.
unfoldable pub side_by_side : List ℕ → ℕ → Bool
side_by_side octets count =
    leb 1 count && leb count 16 && eqb (length octets % count) 0 && sized (table_at octets (length_of_each octets count) 0)

-- Returns the addresses of the points, from the first six octets of each table. Refusal 10 judges the addresses before refusal
-- 21 judges the tables.
abbrev pub points : List (List ℕ) → List Address
points tables = map address_of tables

-- Reports whether the clock c is below the latest clock of the table t.
unfoldable pub has_later_clock : ℕ → List ℕ → Bool
has_later_clock c t = c below clock t

-- ---- the walk from point to point

pub record Walked : Type 0 where
  pub answer : ℕ
  pub hops : ℕ

abbrev pub arrived : ℕ → Walked
arrived hops = record { answer = 0; hops = hops }

abbrev pub stopped : ℕ → Walked
stopped hops = record { answer = 41; hops = hops }

abbrev pub too_long : ℕ → Walked
too_long hops = record { answer = 42; hops = hops }

-- Returns the row that the point with this address holds for the destination. Returns none if the address is no point's, or the
-- point has no row.
unfoldable pub row_of_point : List (List ℕ) → Address → Address → Option Row
row_of_point [] address destination = None
row_of_point (t ∷ tables) address destination =
    cond (same (address_of t) address) (row_for t destination) (row_of_point tables address destination)

module _ (tables : List (List ℕ)) (c : ℕ) (destination : Address) where
  -- Returns the next hop of an active row if it is the destination or a point, otherwise none.
  unfoldable pub leads_to : Option Address → Option Address
  leads_to None = None
  leads_to (Some next) = cond (same next destination || contains (points tables) next) (Some next) None

  -- Walks on from the next hop and counts it. Without a next hop the walk stops with 41, and counts no further hop.
  abbrev pub go_on : Option Address → (hops : ℕ) → (Address → ℕ → Walked) → Walked
  go_on None hops further = stopped hops
  go_on (Some next) hops further = further next (hops + 1)

  -- Walks on from the address `at` after `hops` hops. After `remaining` more hops the walk has as many hops as there are points.
  unfoldable pub follow : (remaining : ℕ) → Address → (hops : ℕ) → Walked
  follow zero at hops = cond (same at destination) (arrived hops) (too_long hops)
  follow (suc remaining) at hops =
      cond (same at destination) (arrived hops)
      (go_on (leads_to (active_next c (row_of_point tables at destination))) hops (follow remaining))

-- A refusal answers its number and returns 0 hops.
abbrev pub walked_at_exit : Decision Walked → Walked
walked_at_exit (Err r) = record { answer = number_of r; hops = 0 }
walked_at_exit (Ok w) = w

-- ---- the call

-- Refusals 21 and 22: the octets of any table are not a table; the clock c is below the latest clock of any table.
abbrev pub table_checks : List (List ℕ) → ℕ → List Check
table_checks tables c =
    refuse NotATable when any (λ (t : List ℕ). not (is_table t)) tables
    then refuse OldClock when any (has_later_clock c) tables

abbrev pub walking : List ℕ → ℕ → ℕ → Address → Address → Ruling Walked
walking octets count c start destination = do
  refuse TableLength when not (side_by_side octets count)
  refuse ClockTooLarge when c above max_clock
  refuse BadAddress when not (individual destination)
  refuse BadList when not (contains (points (tables_in octets count)) start) || has_duplicate (points (tables_in octets count))
  -- 21 and 22
  table_checks (tables_in octets count) c
  accept (follow (tables_in octets count) c destination count start 0)

unfoldable pub walk : List ℕ → ℕ → ℕ → Address → Address → Decision Walked
walk octets count c start destination = decide (walking octets count c start destination)
