-- Defines the checks that several calls share. PROTOCOL, 'Refusals'.
use Rattle.refusals.specs.declared.Refusal.TheVariants.{TableLength, ShortOutput, ClockTooLarge, BadNeighbour, NotATable}
use Rattle.refusals.specs.declared.Refusal.TheVariants.{OldClock, FromItself}
use Rattle.std.specs.Prelude.{ℕ, not, List}
use Rattle.rules.specs.Exit.{least_output}
use Rattle.layout.specs.Row.{max_clock}
use Rattle.layout.specs.declared.address.Address.{Address}
use Rattle.layout.specs.Address.{individual, same}
use Rattle.layout.specs.Layout.{sized}
use Rattle.table.specs.Table.{own, clock, is_table}
use Rattle.rules.specs.Decision.{Check, refuse◌when◌, ◌then◌, ◌above◌, ◌below◌}

-- Refusals 1 and 2, for a call with the table t and an output of `room` octets.
abbrev pub buffer_checks : List ℕ → ℕ → List Check
buffer_checks t room =
    refuse TableLength when not (sized t)
    then refuse ShortOutput when room below least_output

-- Refusals 1 to 4, for a call that also has the clock c and a neighbour: the transmitter or the broken neighbour.
unfoldable pub operand_checks : List ℕ → ℕ → ℕ → Address → List Check
operand_checks t room c neighbour =
    buffer_checks t room
    then refuse ClockTooLarge when c above max_clock
    then refuse BadNeighbour when not (individual neighbour)

-- Refusals 21 to 23, for a call with the table t, the clock c and a neighbour.
unfoldable pub state_checks : List ℕ → ℕ → Address → List Check
state_checks t c neighbour =
    refuse NotATable when not (is_table t)
    then refuse OldClock when c below clock t
    then refuse FromItself when same neighbour (own t)
