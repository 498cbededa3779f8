-- Defines the call that reports a broken neighbour. PROTOCOL, 'Errors and breaks'.
use Rattle.std.specs.Prelude.{ℕ, Bool, List}
use Rattle.layout.specs.declared.address.Address.{Address}
use Rattle.layout.specs.declared.row.Row.{Row}
use Rattle.table.specs.Table.{number, change_where}
use Rattle.rules.specs.Decision.{Decision, Ruling, decide, accept, ◌>>◌}
use Rattle.rules.specs.Checks.{operand_checks, state_checks}
use Rattle.rules.specs.Exit.{Lent, with_table, Effect, under_head}
use Rattle.layout.specs.Row.{is_through}
use Rattle.rules.specs.Errors.{broken, broken_entries, errors_for}

-- The effect of a break: the rows that pass `test` break, the point names their destinations in RERRs, and the clock is stored.
unfoldable pub broken_off : Lent → ℕ → (Row → Bool) → Effect
broken_off l c test =
    let t : List ℕ = l.table in
    record {
      lent = with_table (under_head t (number t) c (change_where test broken t)) l;
      frames = errors_for (broken_entries test t);
    }

unfoldable pub breaking : Lent → ℕ → ℕ → Address → Ruling Effect
breaking l room c neighbour = do
  -- 1 to 4
  operand_checks l.table room c neighbour
  -- 21 to 23
  state_checks l.table c neighbour
  -- Every active row whose next hop is the neighbour breaks.
  accept (broken_off l c (is_through c neighbour))

unfoldable pub break_neighbour : Lent → ℕ → ℕ → Address → Decision Effect
break_neighbour l room c neighbour = decide (breaking l room c neighbour)
