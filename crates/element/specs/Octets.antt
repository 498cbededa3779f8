-- Defines elements as octets: refusals 6, 7 and 8, reading and writing. PROTOCOL, 'Elements' and 'Refusals'. What is defined
-- here:
--   wrong_length, other_id, misfit          refusals 6, 7 and 8
--   kind_in, count_as, list_part            the type, N, and the octets of the list
--   read_element                            the element that octets hold
--   write_element, write_frame              the octets of an element, and of a frame
--   fixed_octets, frame_start               the octets of an element, and of a frame, up to the list
use Rattle.std.specs.Prelude.{ℕ, ◌+◌, Bool, ◌||◌, not, eqb, ltb, length, get_or, drop}
use mathlib.Core.List.{List, [], ◌∷◌, ◌++◌, flat_map}
use Rattle.octets.specs.LittleEndian.{number_octets, fields_at, field_octets}
use Rattle.layout.specs.declared.address.Address.{Address}
use Rattle.element.specs.declared.Kind.{Kind}
use Rattle.element.specs.declared.Kind.TheVariants.{Rann, Rreq, Rrep, Rerr}
use Rattle.element.specs.declared.PathInfo.{PathInfo}
use Rattle.element.specs.declared.RreqFields.{RreqFields}
use Rattle.element.specs.declared.RrepFields.{RrepFields}
use Rattle.element.specs.declared.RerrFields.{RerrFields}
use Rattle.element.specs.Element.{Element, rann, rreq, rrep, rerr, kind_of, count_of, field_numbers}
use Rattle.element.specs.Layout.{id_of, kind_with, known, length_with, fits, field_widths}
use Rattle.element.specs.Entries.{lost_octets, lost_list, numbered_octets, numbered_list, target_octets, target_list}

-- ---- refusals 6, 7 and 8

-- Returns the type that the ID says.
abbrev pub kind_in : List ℕ → Kind
kind_in s = kind_with (get_or s 0 0)

-- Returns N, the last octet before the list, of octets read as an element of the type. It returns 0 if the octets end before N,
-- and then no Length that passes refusal 6 fits.
abbrev pub count_as : Kind → List ℕ → ℕ
count_as Rann s = 0
count_as Rreq s = get_or s 27 0
count_as Rrep s = get_or s 33 0
count_as Rerr s = get_or s 3 0

-- 6. The element has fewer than 2 octets, or its Length differs from the number of octets after it.
unfoldable pub wrong_length : List ℕ → Bool
wrong_length s = ltb (length s) 2 || not (eqb (2 + get_or s 1 0) (length s))

-- 7. The ID is none of the four.
unfoldable pub other_id : List ℕ → Bool
other_id s = not (known (get_or s 0 0))

-- 8. Length is not what PROTOCOL, 'Elements', gives for the type and N, or N is outside the range of the type, or the element
-- ends before its N.
unfoldable pub misfit : List ℕ → Bool
misfit s = not (fits (kind_in s) (get_or s 1 0) (count_as (kind_in s) s))

-- ---- reading

-- Returns a path from the fields xs: flags, hop count and TTL are the first three, and the subject is field i.
abbrev pub path_from : List ℕ → ℕ → PathInfo
path_from xs i =
    record {
      flags = get_or xs 0 0;
      hops = record { 0 = get_or xs 1 0 };
      ttl = get_or xs 2 0;
      subject = record { 0 = get_or xs i 0 };
      number = record { 0 = get_or xs (i + 1) 0 };
      lifetime = get_or xs (i + 2) 0;
      metric = record { 0 = get_or xs (i + 3) 0 };
    }

abbrev pub rreq_from : List ℕ → RreqFields
rreq_from xs = record { request = record { 0 = get_or xs 3 0 }; path = path_from xs 4 }

abbrev pub rrep_from : List ℕ → RrepFields
rrep_from xs =
    record {
      path = path_from xs 3;
      source = record { address = record { 0 = get_or xs 7 0 }; number = record { 0 = get_or xs 8 0 } };
    }

abbrev pub rerr_from : List ℕ → RerrFields
rerr_from xs = record { flags = get_or xs 0 0 }

-- Returns the fields between Length and N.
abbrev pub fields_as : Kind → List ℕ → List ℕ
fields_as k s = fields_at (field_widths k) s 2 0

-- Returns the list part: the octets after those of an element without entries. For a RANN there are none.
abbrev pub list_as : Kind → List ℕ → List ℕ
list_as k s = drop (2 + length_with k 0) s

abbrev pub element_as : Kind → List ℕ → ℕ → List ℕ → Element
element_as Rann xs n part = rann (path_from xs 3)
element_as Rreq xs n part = rreq (rreq_from xs) (target_list n part)
element_as Rrep xs n part = rrep (rrep_from xs) (numbered_list n part)
element_as Rerr xs n part = rerr (rerr_from xs) (lost_list n part)

unfoldable pub read_as : Kind → List ℕ → Element
read_as k s = element_as k (fields_as k s) (count_as k s) (list_as k s)

unfoldable pub list_part : List ℕ → List ℕ
list_part s = list_as (kind_in s) s

unfoldable pub read_element : List ℕ → Element
read_element s = read_as (kind_in s) s

-- ---- writing

-- Returns N as an octet, if elements of this type have N.
abbrev pub count_part : Kind → ℕ → List ℕ
count_part Rann n = []
count_part Rreq n = n ∷ []
count_part Rrep n = n ∷ []
count_part Rerr n = n ∷ []

-- Returns the numbers of an element with n entries up to its list: ID, Length, fields and N.
abbrev pub fixed_numbers : Kind → ℕ → List ℕ → List ℕ
fixed_numbers k n xs = id_of k ∷ length_with k n ∷ xs ++ count_part k n

-- Returns the octets of an element with n entries up to its list.
unfoldable pub fixed_octets : Kind → ℕ → List ℕ → List ℕ
fixed_octets k n xs = id_of k ∷ length_with k n ∷ field_octets (field_widths k) xs ++ count_part k n

abbrev pub list_octets : Element → List ℕ
list_octets (rann p) = []
list_octets (rreq f targets) = flat_map target_octets targets
list_octets (rrep f dependents) = flat_map numbered_octets dependents
list_octets (rerr f destinations) = flat_map lost_octets destinations

unfoldable pub write_element : Element → List ℕ
write_element e = fixed_octets (kind_of e) (count_of e) (field_numbers e) ++ list_octets e

-- A frame is a receiver address followed by an element.
unfoldable pub write_frame : Address → Element → List ℕ
write_frame to e = number_octets 6 to.0 ++ write_element e

-- Returns how many octets a frame has up to its list: the receiver address, and an element without entries.
abbrev pub start_octets : Kind → ℕ
start_octets k = 8 + length_with k 0

-- Returns the octets of a frame with n entries up to its list.
abbrev pub frame_start : Address → Kind → ℕ → List ℕ → List ℕ
frame_start to k n xs = number_octets 6 to.0 ++ fixed_octets k n xs
