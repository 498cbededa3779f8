-- Defines what the entries for tests and benchmarks answer, and what they leave in their lent memory.
use Rattle.std.specs.Prelude.{ℕ, ◌+◌, cond, leb, length, Result, Ok, Err}
use mathlib.Core.List.{List, [], ◌++◌, flat_map}
use Rattle.octets.specs.LittleEndian.{overwrite}
use Rattle.layout.specs.declared.address.Address.{Address}
use Rattle.element.specs.declared.list.ListKind.{ListKind}
use Rattle.element.specs.declared.list.ListKind.TheVariants.{Targets, Dependents, LostDestinations}
use Rattle.refusals.specs.declared.Refusal.{Refusal}
use Rattle.refusals.specs.Numbers.{number_of}
use Rattle.reading.specs.declared.Fields.{Fields}
use Rattle.reading.specs.declared.Fields.TheVariants.{Announcement, Request, Reply, Error}
use Rattle.element.specs.Element.{
  Element,
  rann,
  rreq,
  rrep,
  rerr,
  kind_of,
  count_of,
  field_numbers,
  lost_numbers,
  numbered_numbers,
  target_numbers,
}
use Rattle.element.specs.Octets.{fixed_numbers, read_element, list_part, write_frame}
use Rattle.reading.specs.Reading.{reading}
use Rattle.element.specs.Lists.{addresses_in, contains, any_forbidden, ones_beside_others, has_duplicate}

pub record Probed : Type 0 where
  pub answer : ℕ
  pub memory : List ℕ

-- A refusal answers its number and leaves the memory unchanged.
abbrev pub unless_refused : Result Fields Refusal → List ℕ → Probed → Probed
unless_refused (Ok f) was made = made
unless_refused (Err r) was made = record { answer = number_of r; memory = was }

-- ---- an element as numbers

-- Returns the numbers of all entries of an element, in the order of its octets.
abbrev pub entry_numbers : Element → List ℕ
entry_numbers (rann p) = []
entry_numbers (rreq f targets) = flat_map target_numbers targets
entry_numbers (rrep f dependents) = flat_map numbered_numbers dependents
entry_numbers (rerr f destinations) = flat_map lost_numbers destinations

-- Returns all numbers of an element, in the order of its octets.
unfoldable pub element_numbers : Element → List ℕ
element_numbers e = fixed_numbers (kind_of e) (count_of e) (field_numbers e) ++ entry_numbers e

unfoldable pub read_numbers : List ℕ → List ℕ → Probed
read_numbers s numbers =
    unless_refused (reading s) numbers (record { answer = 0; memory = overwrite numbers 0 (element_numbers (read_element s)) })

-- ---- an element written again

-- Writes the octets p from the place `at` on, or answers 2 if they do not fit. (A call of the library differs: refusal 2 asks for
-- 1,560 octets, whatever the call would write.)
unfoldable pub written : List ℕ → ℕ → List ℕ → Probed
written out at p =
    cond (leb (at + length p) (length out)) (record { answer = 0; memory = overwrite out at p })
    (record { answer = 2; memory = out })

unfoldable pub written_again : List ℕ → Address → List ℕ → ℕ → Probed
written_again s to out at = unless_refused (reading s) out (written out at (write_frame to (read_element s)))

-- ---- the faults of a list, as a sum: 1 for an address that the list may not have, 2 for an address that stands twice, 4 for all
-- ones and anything else, 8 if the given address is in the list

abbrev pub faults : ListKind → Address → List Address → ℕ
faults k a l =
    cond (any_forbidden k l) 1 0 + cond (has_duplicate l) 2 0 + cond (ones_beside_others l) 4 0 + cond (contains l a) 8 0

-- Returns the kind of the list that the element has. The list part of a RANN is empty, so its kind makes no difference.
abbrev pub list_kind : Fields → ListKind
list_kind (Announcement p) = Dependents
list_kind (Request f) = Targets
list_kind (Reply f) = Dependents
list_kind (Error f) = LostDestinations

abbrev pub faults_read : Result Fields Refusal → List ℕ → Address → ℕ
faults_read (Ok f) part a = faults (list_kind f) a (addresses_in (list_kind f) part)
faults_read (Err r) part a = 0

unfoldable pub faults_in : List ℕ → Address → ℕ
faults_in s a = faults_read (reading s) (list_part s) a
