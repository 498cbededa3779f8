-- Defines the call that forgets a destination. PROTOCOL, 'Fresh, next hop, forget'.
use Rattle.refusals.specs.declared.Refusal.TheVariants.{TableLength, BadAddress, NotATable, NotHeld}
use Rattle.std.specs.Prelude.{ℕ, not, List, is_some}
use Rattle.layout.specs.declared.address.Address.{Address}
use Rattle.layout.specs.Address.{individual}
use Rattle.layout.specs.Layout.{sized}
use Rattle.table.specs.Table.{is_table, row_for, freed}
use Rattle.rules.specs.Decision.{Decision, Ruling, decide, refuse◌when◌, accept, ◌>>◌}

-- Forget frees the held row for the destination.
abbrev pub forgetting : List ℕ → Address → Ruling (List ℕ)
forgetting t destination = do
  refuse TableLength when not (sized t)
  refuse BadAddress when not (individual destination)
  refuse NotATable when not (is_table t)
  refuse NotHeld when not (is_some (row_for t destination))
  accept (freed t destination)

unfoldable pub forget : List ℕ → Address → Decision (List ℕ)
forget t destination = decide (forgetting t destination)
