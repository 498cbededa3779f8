-- Defines the addresses in a list part or in the items of an ask, and what refusals 9 and 10 judge in them. PROTOCOL, 'Refusals'.
-- No call judges the dependents of a RREP: receive passes them on unread.
use Rattle.std.specs.Prelude.{ℕ, ◌-◌, ◌^◌, Bool, false, ◌&&◌, ◌||◌, not, List, [], ◌∷◌, ltb, length}
use Rattle.layout.specs.declared.address.Address.{Address}
use Rattle.layout.specs.Address.{individual, same}
use Rattle.element.specs.declared.list.ListKind.{ListKind}
use Rattle.element.specs.declared.list.ListKind.TheVariants.{Targets, Dependents, LostDestinations, Items}
use Rattle.element.specs.Entries.{each, entries_in, item_at, lost_at, numbered_at, target_at}

-- ---- a list part by the kind of its entries

abbrev pub address_in : ListKind → List ℕ → ℕ → Address
address_in Targets part i = (target_at part i).address
address_in Dependents part i = (numbered_at part i).address
address_in LostDestinations part i = (lost_at part i).address
address_in Items part i = (item_at part i).address

-- Returns the addresses of entry i and of all entries after it.
unfoldable pub addresses_from : ListKind → List ℕ → ℕ → List Address
addresses_from k part i = each (address_in k part) i (entries_in k part - i)

abbrev pub addresses_in : ListKind → List ℕ → List Address
addresses_in k part = addresses_from k part 0

-- ---- faults

abbrev pub all_ones : Address
all_ones = record { 0 = 2 ^ 48 - 1 }

-- An address in a list must be individual, except that a RREQ's destination may be all ones. An ask may not name all ones.
unfoldable pub allowed : ListKind → Address → Bool
allowed Targets a = individual a || same a all_ones
allowed Dependents a = individual a
allowed LostDestinations a = individual a
allowed Items a = individual a

unfoldable pub any_forbidden : ListKind → List Address → Bool
any_forbidden k [] = false
any_forbidden k (a ∷ rest) = not (allowed k a) || any_forbidden k rest

unfoldable pub contains : List Address → Address → Bool
contains [] a = false
contains (b ∷ rest) a = same b a || contains rest a

-- Reports whether an address stands twice.
unfoldable pub has_duplicate : List Address → Bool
has_duplicate [] = false
has_duplicate (a ∷ rest) = contains rest a || has_duplicate rest

-- Reports whether the list has all ones and anything else.
unfoldable pub ones_beside_others : List Address → Bool
ones_beside_others l = contains l all_ones && ltb 1 (length l)
