-- Defines which rows break with a link. Only contracts of the code use the definition of this file. It is no part of what a call
-- is.
use Rattle.std.specs.Prelude.{Bool}
use Rattle.layout.specs.declared.row.Row.{Row}
use Rattle.layout.specs.Row.{is_through}
use Rattle.breaking.specs.declared.rows.BrokenLink.{BrokenLink}

-- Reports whether a row breaks: it is active, and its next hop is the neighbour.
abbrev pub breaks : BrokenLink → Row → Bool
breaks link = is_through link.clock link.neighbour
