-- Defines the entries in the list part of an element, and the items of an ask: by index, and all of them in order. PROTOCOL,
-- 'Elements'.
use Rattle.std.specs.Prelude.{ℕ, zero, suc, ◌*◌, ◌/◌, List, [], ◌∷◌, length, get_or}
use Rattle.octets.specs.LittleEndian.{fields_at, field_octets}
use Rattle.element.specs.declared.list.ListKind.{ListKind}
use Rattle.element.specs.declared.list.ListKind.TheVariants.{Targets, Dependents, LostDestinations, Items}
use Rattle.element.specs.declared.Item.{Item}
use Rattle.element.specs.declared.LostDestination.{LostDestination}
use Rattle.element.specs.declared.NumberedAddress.{NumberedAddress}
use Rattle.element.specs.declared.Target.{Target}
use Rattle.element.specs.Element.{lost_numbers, numbered_numbers, target_numbers}
use Rattle.element.specs.Layout.{item_widths, lost_widths, numbered_widths, size_of, target_widths}

-- Returns the list of f i, f (i + 1) and so on, with n entries.
unfoldable pub each : {A : Type 0} → (ℕ → A) → ℕ → ℕ → List A
each f i zero = []
each f i (suc n) = f i ∷ each f (suc i) n

-- Returns how many entries a list part has.
abbrev pub entries_in : ListKind → List ℕ → ℕ
entries_in k part = length part / size_of k

-- States that every entry has the property P.
unfoldable pub All : {A : Type 0} → (A → Type 0) → List A → Type 0
All P [] = Unit {0}
All P (x ∷ xs) = P x × All P xs

-- ---- a dependent of a RREP: address 6, number 4

abbrev pub numbered_from : List ℕ → NumberedAddress
numbered_from xs = record { address = record { 0 = get_or xs 0 0 }; number = record { 0 = get_or xs 1 0 } }

unfoldable pub numbered_at : List ℕ → ℕ → NumberedAddress
numbered_at part i = numbered_from (fields_at numbered_widths part (size_of Dependents * i) 0)

abbrev pub numbered_list : ℕ → List ℕ → List NumberedAddress
numbered_list n part = each (numbered_at part) 0 n

-- Returns all entries of a list part.
abbrev pub numbered_in : List ℕ → List NumberedAddress
numbered_in part = numbered_list (entries_in Dependents part) part

unfoldable pub numbered_octets : NumberedAddress → List ℕ
numbered_octets a = field_octets numbered_widths (numbered_numbers a)

-- ---- a destination of a RERR: address 6, number 4

abbrev pub lost_from : List ℕ → LostDestination
lost_from xs = record { address = record { 0 = get_or xs 0 0 }; number = record { 0 = get_or xs 1 0 } }

unfoldable pub lost_at : List ℕ → ℕ → LostDestination
lost_at part i = lost_from (fields_at lost_widths part (size_of LostDestinations * i) 0)

abbrev pub lost_list : ℕ → List ℕ → List LostDestination
lost_list n part = each (lost_at part) 0 n

abbrev pub lost_in : List ℕ → List LostDestination
lost_in part = lost_list (entries_in LostDestinations part) part

unfoldable pub lost_octets : LostDestination → List ℕ
lost_octets m = field_octets lost_widths (lost_numbers m)

-- ---- a destination of a RREQ: flags 1, address 6, number 4

abbrev pub target_from : List ℕ → Target
target_from xs = record { flags = get_or xs 0 0; address = record { 0 = get_or xs 1 0 }; number = record { 0 = get_or xs 2 0 } }

unfoldable pub target_at : List ℕ → ℕ → Target
target_at part i = target_from (fields_at target_widths part (size_of Targets * i) 0)

abbrev pub target_list : ℕ → List ℕ → List Target
target_list n part = each (target_at part) 0 n

abbrev pub targets_in : List ℕ → List Target
targets_in part = target_list (entries_in Targets part) part

unfoldable pub target_octets : Target → List ℕ
target_octets t = field_octets target_widths (target_numbers t)

-- ---- an item of an ask: flags 1, address 6

abbrev pub item_from : List ℕ → Item
item_from xs = record { flags = get_or xs 0 0; address = record { 0 = get_or xs 1 0 } }

unfoldable pub item_at : List ℕ → ℕ → Item
item_at part i = item_from (fields_at item_widths part (size_of Items * i) 0)

abbrev pub items_in : List ℕ → List Item
items_in part = each (item_at part) 0 (entries_in Items part)
