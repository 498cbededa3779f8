-- Defines marks of addresses, by which a function sees that an address is new to it. Only contracts of the code use the
-- definitions of this file. They are no part of what a table is.
use Rattle.std.specs.Prelude.{ℕ, ◌*◌, ◌/◌, ◌%◌, ◌^◌}
use Rattle.std.specs.Int.Bits.{bit_and}
use Rattle.layout.specs.declared.address.Address.{Address}

-- Returns the mark of an address, a number from 0 to `last`. Two addresses may share a mark.
unfoldable pub mark : ℕ → Address → ℕ
mark last a = bit_and (a.0 % 2 ^ 48 * 40503 / 2 ^ 40) last
