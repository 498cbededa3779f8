-- Defines the premise of demand 3: all numbers held or carried for a destination lie in one window. PROTOCOL, 'Demands'.
use Rattle.rules.specs.Lists.{all}
use Rattle.std.specs.Prelude.{ℕ, ◌^◌, Bool, cond, eqb, ltb, Option, None, Some}
use mathlib.Core.List.{List, [], ◌∷◌, ◌++◌, flat_map}
use Rattle.counters.specs.Numbers.{wrapped}
use Rattle.counters.specs.declared.SequenceNumber.{SequenceNumber}
use Rattle.layout.specs.declared.address.Address.{Address}
use Rattle.layout.specs.declared.row.Row.{Row}
use Rattle.layout.specs.Address.{same}
use Rattle.table.specs.Table.{own, number, row_for}
use Rattle.element.specs.declared.PathInfo.{PathInfo}
use Rattle.element.specs.declared.LostDestination.{LostDestination}
use Rattle.element.specs.declared.NumberedAddress.{NumberedAddress}
use Rattle.element.specs.declared.Target.{Target}
use Rattle.element.specs.Element.{Element, rann, rreq, rrep, rerr}
use Rattle.element.specs.Flags.{number_unknown}
use Rattle.element.specs.Octets.{read_element}
use Rattle.rules.specs.Exit.{Lent}
use Rattle.theorems.specs.Mesh.{Sent, Mesh}

-- Returns the number n, which stands with the address a, if a is d. Otherwise returns nothing.
unfoldable pub beside : Address → Address → SequenceNumber → List SequenceNumber
beside d a n = cond (same a d) (n ∷ []) []

-- Returns the number of a row if the row is there and its number is known.
abbrev pub known_in : Option Row → List SequenceNumber
known_in None = []
known_in (Some r) = cond (eqb r.known 1) (r.number ∷ []) []

-- Returns the numbers held for d in the table t: the own number if t is the table of d, and the number of the row for d, valid
-- or not, if it is known.
unfoldable pub held : Address → List ℕ → List SequenceNumber
held d t = beside d (own t) (number t) ++ known_in (row_for t d)

-- Returns the numbers held for d in the tables of all points.
unfoldable pub held_by_all : Address → List Lent → List SequenceNumber
held_by_all d boxes = flat_map (λ (l : Lent). held d l.table) boxes

-- Returns the number of a path if its subject is d. The subject is the originator of a RANN or RREQ, or the destination of a
-- RREP.
abbrev pub path_number : Address → PathInfo → List SequenceNumber
path_number d p = beside d p.subject p.number

-- Returns the number with a destination of a RREQ if the destination is d. A number that is marked unknown does not count. Only
-- 0 is ever marked (`only_0_is_unknown`).
abbrev pub target_number : Address → Target → List SequenceNumber
target_number d q = cond (number_unknown q) [] (beside d q.address q.number)

-- Returns the number with the source or a dependent of a RREP if its address is d.
abbrev pub entry_number : Address → NumberedAddress → List SequenceNumber
entry_number d m = beside d m.address m.number

-- Returns the number with a destination of a RERR if the destination is d.
abbrev pub lost_number : Address → LostDestination → List SequenceNumber
lost_number d m = beside d m.address m.number

-- Returns all numbers that an element carries with the address d.
unfoldable pub carried : Address → Element → List SequenceNumber
carried d (rann p) = path_number d p
carried d (rreq f targets) = path_number d f.path ++ flat_map (target_number d) targets
carried d (rrep f dependents) = path_number d f.path ++ entry_number d f.source ++ flat_map (entry_number d) dependents
carried d (rerr f destinations) = flat_map (lost_number d) destinations

-- Returns all numbers for d that a table holds or that an element sent so far carries.
unfoldable pub numbers_for : Address → Mesh → List SequenceNumber
numbers_for d m = held_by_all d m.boxes ++ flat_map (λ (s : Sent). carried d (read_element s.octets)) m.log

-- Reports whether n lies in the window that starts at base: the 2^31 consecutive numbers from base on, where 0 follows
-- 4,294,967,295. In other words, n - base, wrapped to 32 bits, is below 2^31.
unfoldable pub is_within : ℕ → SequenceNumber → Bool
is_within base n = ltb (wrapped n.0 base) (2 ^ 31)

-- Reports whether all numbers for d lie in the window that starts at base.
unfoldable pub all_within : Address → ℕ → Mesh → Bool
all_within d base m = all (is_within base) (numbers_for d m)
