-- Defines, for each type of element, the ID, the Length with N entries, how many entries are allowed, and the widths of the
-- fields. Defines, for each kind of list, how many octets an entry has. PROTOCOL, 'Elements'.
use Rattle.std.specs.Prelude.{ℕ, ◌+◌, ◌*◌, ◌%◌, ◌≤◌, ◌≡◌, Bool, ◌&&◌, ◌||◌, cond, List, [], ◌∷◌, eqb, leb, length}
use Rattle.element.specs.declared.Kind.{Kind}
use Rattle.element.specs.declared.Kind.TheVariants.{Rann, Rreq, Rrep, Rerr}
use Rattle.element.specs.declared.list.ListKind.{ListKind}
use Rattle.element.specs.declared.list.ListKind.TheVariants.{Targets, Dependents, LostDestinations, Items}

abbrev pub id_of : Kind → ℕ
id_of Rann = 126
id_of Rreq = 130
id_of Rrep = 131
id_of Rerr = 132

-- Reports whether the ID is one of the four.
unfoldable pub known : ℕ → Bool
known id = eqb id (id_of Rann) || eqb id (id_of Rreq) || eqb id (id_of Rrep) || eqb id (id_of Rerr)

-- Returns the type with this ID, if the ID is known. For any other ID it returns `Rerr`, and refusal 7 refuses the element.
unfoldable pub kind_with : ℕ → Kind
kind_with id = cond (eqb id (id_of Rann)) Rann (cond (eqb id (id_of Rreq)) Rreq (cond (eqb id (id_of Rrep)) Rrep Rerr))

-- Returns the Length of an element with n entries. Length counts the octets after itself.
abbrev pub length_with : Kind → ℕ → ℕ
length_with Rann n = 21
length_with Rreq n = 26 + 11 * n
length_with Rrep n = 32 + 10 * n
length_with Rerr n = 2 + 10 * n

-- The fewest and the most entries of each type. A RANN has no list.
abbrev pub fewest : Kind → ℕ
fewest Rann = 0
fewest Rreq = 1
fewest Rrep = 0
fewest Rerr = 1

abbrev pub most : Kind → ℕ
most Rann = 0
most Rreq = 20
most Rrep = 22
most Rerr = 25

abbrev pub count_ok : Kind → ℕ → Bool
count_ok k n = leb (fewest k) n && leb n (most k)

-- Reports whether a Length is the one for the type and n entries, and n is inside the range of the type.
unfoldable pub fits : Kind → ℕ → ℕ → Bool
fits k long n = eqb long (length_with k n) && count_ok k n

-- ---- lists

-- Returns how many octets an entry has.
abbrev pub size_of : ListKind → ℕ
size_of Targets = 11
size_of Dependents = 10
size_of LostDestinations = 10
size_of Items = 7

-- Returns how many octets of an entry stand before its address.
abbrev pub before_address : ListKind → ℕ
before_address Targets = 1
before_address Dependents = 0
before_address LostDestinations = 0
before_address Items = 1

-- Returns how many octets an entry has in the list of this type. For a RANN it returns 1, so that the empty list part has
-- 0 / 1 entries.
abbrev pub entry_size : Kind → ℕ
entry_size Rann = 1
entry_size Rreq = size_of Targets
entry_size Rrep = size_of Dependents
entry_size Rerr = size_of LostDestinations

-- States that octets can be the list part of an element of this type: whole entries, and an allowed number of them. Functions
-- require it as a clause beside the octets, which they are handed beside the fields of the element. A struct with the fields, the
-- octets and this fact is no plainer: an own element has fields and no lent octets, so three structs would come on top of
-- `RreqFields`, `RrepFields` and `RerrFields`.
pub record PartOf (k : Kind) (part : List ℕ) : Type 0 where
  pub whole : length part % entry_size k ≡ 0
  pub some : fewest k * entry_size k ≤ length part
  pub short : length part ≤ most k * entry_size k

-- ---- widths

-- Returns the widths of the fields between Length and N.
abbrev pub field_widths : Kind → List ℕ
-- flags, hop count, TTL, originator, number, lifetime, metric
field_widths Rann = 1 ∷ 1 ∷ 1 ∷ 6 ∷ 4 ∷ 4 ∷ 4 ∷ []
-- flags, hop count, TTL, request ID, originator, number, lifetime, metric
field_widths Rreq = 1 ∷ 1 ∷ 1 ∷ 4 ∷ 6 ∷ 4 ∷ 4 ∷ 4 ∷ []
-- flags, hop count, TTL, destination, number, lifetime, metric, source, source number
field_widths Rrep = 1 ∷ 1 ∷ 1 ∷ 6 ∷ 4 ∷ 4 ∷ 4 ∷ 6 ∷ 4 ∷ []
-- flags
field_widths Rerr = 1 ∷ []

-- A destination of a RREQ: flags, address, number.
abbrev pub target_widths : List ℕ
target_widths = 1 ∷ 6 ∷ 4 ∷ []

-- An item of an ask: flags, address.
abbrev pub item_widths : List ℕ
item_widths = 1 ∷ 6 ∷ []

-- A dependent of a RREP: address, number.
abbrev pub numbered_widths : List ℕ
numbered_widths = 6 ∷ 4 ∷ []

-- A destination of a RERR: address, number.
abbrev pub lost_widths : List ℕ
lost_widths = 6 ∷ 4 ∷ []
