-- Defines the call that finds a next hop. PROTOCOL, 'Fresh, next hop, forget'.
use Rattle.refusals.specs.declared.Refusal.TheVariants.{TableLength, ClockTooLarge, BadAddress, NotATable, OldClock, NoNextHop}
use Rattle.std.specs.Prelude.{ℕ, not, List, Option, unwrap_or, is_some}
use Rattle.layout.specs.Row.{max_clock}
use Rattle.layout.specs.declared.address.Address.{Address}
use Rattle.layout.specs.Address.{individual}
use Rattle.layout.specs.Layout.{sized}
use Rattle.table.specs.Table.{clock, is_table, row_for, active_next}
use Rattle.rules.specs.Decision.{Decision, Ruling, decide, refuse◌when◌, ◌above◌, ◌below◌, accept, ◌>>◌}

abbrev pub finding_next_hop : List ℕ → ℕ → Address → Ruling Address
finding_next_hop t c destination =
    let next : Option Address = active_next c (row_for t destination) in do
      refuse TableLength when not (sized t)
      refuse ClockTooLarge when c above max_clock
      refuse BadAddress when not (individual destination)
      refuse NotATable when not (is_table t)
      refuse OldClock when c below clock t
      -- 28. There is no active row for the destination.
      refuse NoNextHop when not (is_some next)
      accept (unwrap_or next (record { 0 = 0 }))

unfoldable pub next_hop : List ℕ → ℕ → Address → Decision Address
next_hop t c destination = decide (finding_next_hop t c destination)
