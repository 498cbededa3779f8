-- Defines the point of each piece. Only contracts of the code use the definition of this file. It is no part of what a walk is.
use Rattle.std.specs.Prelude.{ℕ, List}
use Rattle.layout.specs.declared.address.Address.{Address}
use Rattle.layout.specs.Address.{address_of}
use Rattle.rules.specs.Walk.{table_at}

-- Returns the own address of piece i.
abbrev pub point_at : List ℕ → ℕ → ℕ → Address
point_at s long i = address_of (table_at s long i)
