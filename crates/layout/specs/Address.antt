-- Defines addresses. PROTOCOL, 'Words'. An address is six octets, read as a little-endian number: the first octet is the lowest.
use Rattle.std.specs.Prelude.{ℕ, ◌%◌, Bool, ◌&&◌, not, List, eqb}
use Rattle.octets.specs.LittleEndian.{number_at, with_number, zeros}
use Rattle.layout.specs.declared.address.Address.{Address}

-- Returns the address that six octets make.
abbrev pub address_of : List ℕ → Address
address_of s = record { 0 = number_at 6 s 0 }

-- Returns the six octets of an address.
abbrev pub octets_of : Address → List ℕ
octets_of a = with_number 6 (zeros 6) 0 a.0

abbrev pub same : Address → Address → Bool
same a b = eqb a.0 b.0

-- An address is individual if the lowest bit of its first octet is 0 and not all six octets are zero.
unfoldable pub individual : Address → Bool
individual a = eqb (a.0 % 2) 0 && not (eqb a.0 0)
