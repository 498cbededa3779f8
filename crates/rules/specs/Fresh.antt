-- Defines the call that makes a fresh table. PROTOCOL, 'Fresh, next hop, forget'.
use Rattle.refusals.specs.declared.Refusal.TheVariants.{TableLength, BadAddress}
use Rattle.std.specs.Prelude.{ℕ, not, List, length}
use Rattle.counters.specs.declared.SequenceNumber.{SequenceNumber}
use Rattle.layout.specs.declared.address.Address.{Address}
use Rattle.layout.specs.Address.{individual}
use Rattle.layout.specs.Layout.{sized}
use Rattle.table.specs.Table.{fresh}
use Rattle.rules.specs.Decision.{Decision, Ruling, decide, refuse◌when◌, accept, ◌>>◌}

-- Overwrites the octets t with a fresh table that has this own address and own number, whatever the octets were.
abbrev pub making_fresh : List ℕ → Address → SequenceNumber → Ruling (List ℕ)
making_fresh t own number = do
  refuse TableLength when not (sized t)
  refuse BadAddress when not (individual own)
  accept (fresh (length t) own number)

unfoldable pub make_fresh : List ℕ → Address → SequenceNumber → Decision (List ℕ)
make_fresh t own number = decide (making_fresh t own number)
