-- Defines what is kept of a destination. Only contracts of the code use the definitions of this file. The law `kept_is` says that
-- `kept_of` gives the kept part of `answered`, whatever the own number is.
use Rattle.std.specs.Prelude.{ℕ, cond, List, Option, None, Some, filter_map}
use Rattle.layout.specs.declared.row.Row.{Row}
use Rattle.layout.specs.Address.{same}
use Rattle.table.specs.Table.{own}
use Rattle.element.specs.declared.Target.{Target}
use Rattle.element.specs.Entries.{targets_in}
use Rattle.element.specs.Lists.{all_ones}
use Rattle.element.specs.Flags.{has_rf, with_do}
use Rattle.answering.specs.Answering.{answering_row}

-- Returns what is kept of q, by the row that answers for q, if there is one.
abbrev pub kept_by : Target → Option Row → Option Target
kept_by q None = Some q
kept_by q (Some r) = cond (has_rf q) (Some (with_do q)) None

-- Returns the form in which q is kept, or None if q is struck out.
unfoldable pub kept_of : List ℕ → ℕ → Target → Option Target
kept_of t c q = cond (same q.address (own t)) None (cond (same q.address all_ones) (Some q) (kept_by q (answering_row t c q)))

-- Returns the kept destinations of `part`.
unfoldable pub kept_among : List ℕ → ℕ → List ℕ → List Target
kept_among t c part = filter_map (kept_of t c) (targets_in part)
