-- Defines the row from which a point makes an intermediate reply. Only contracts of the code use the definitions of this file.
-- The law `answering_is` gives the value of `for_another` by `answering_row`.
use Rattle.std.specs.Prelude.{ℕ, cond, List, Option, None, Some}
use Rattle.layout.specs.declared.row.Row.{Row}
use Rattle.table.specs.Table.{row_for}
use Rattle.element.specs.declared.Target.{Target}
use Rattle.rules.specs.Destinations.{answers_for}

-- Returns the row if it answers for the destination q.
abbrev pub if_answers : ℕ → Target → Option Row → Option Row
if_answers c q None = None
if_answers c q (Some r) = cond (answers_for c q r) (Some r) None

unfoldable pub answering_row : List ℕ → ℕ → Target → Option Row
answering_row t c q = if_answers c q (row_for t q.address)
