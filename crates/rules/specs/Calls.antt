-- Defines the five calls that may write a table and an output, in one definition: receive, ask, announce, root request and break.
-- PROTOCOL, 'Receiving', 'Originating' and 'Errors and breaks'.
use Rattle.std.specs.Prelude.{ℕ, ◌^◌, ◌<◌, List}
use Rattle.octets.specs.LittleEndian.{Octets}
use Rattle.layout.specs.declared.address.Address.{Address}
use Rattle.rules.specs.Decision.{Decision}
use Rattle.rules.specs.Exit.{Lent, Effect}
use Rattle.rules.specs.declared.Arrival.{Arrival}
use Rattle.rules.specs.Receive.{receive}
use Rattle.rules.specs.Originate.{ask, announce, root_request}
use Rattle.rules.specs.Break.{break_neighbour}

-- A call other than receive, with all its operands except the table and the output.
pub data OwnCall : Type 0 where
  asks : (lifetime : ℕ) → (items : List ℕ) → OwnCall
  announces : (flags lifetime : ℕ) → OwnCall
  requests_as_root : (flags lifetime : ℕ) → OwnCall
  breaks : (clock : ℕ) → (neighbour : Address) → OwnCall

-- Any of the five calls: receive with its operands, or a call other than receive.
pub data Call : Type 0 where
  receives : Arrival → (element : List ℕ) → Call
  makes : OwnCall → Call

-- Returns the decision of a call, from what it is lent and an output of `room` octets.
unfoldable pub decision : Lent → ℕ → Call → Decision Effect
decision l room (receives a s) = receive l room a s
decision l room (makes (asks lifetime items)) = ask l room lifetime items
decision l room (makes (announces flags lifetime)) = announce l room flags lifetime
decision l room (makes (requests_as_root flags lifetime)) = root_request l room flags lifetime
decision l room (makes (breaks c neighbour)) = break_neighbour l room c neighbour

-- States what the types of C guarantee for the operands, as far as proofs need it. An octet is below 256, an address has six
-- octets and a lifetime has 32 bits.
abbrev pub OwnOperandsFit : OwnCall → Type 0
OwnOperandsFit (asks lifetime items) = (lifetime < 256 ^ 4) × Octets items
OwnOperandsFit (announces flags lifetime) = lifetime < 256 ^ 4
OwnOperandsFit (requests_as_root flags lifetime) = lifetime < 256 ^ 4
OwnOperandsFit (breaks c neighbour) = Unit {0}

abbrev pub OperandsFit : Call → Type 0
OperandsFit (receives a s) = (a.transmitter.0 < 256 ^ 6) × Octets s
OperandsFit (makes call) = OwnOperandsFit call
