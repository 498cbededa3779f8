-- Defines the exit of each call: the answer as a number, the values returned with the answer, and every lent buffer when the call
-- has ended. PROTOCOL, 'Frames and answers'. The contract of a call says that the call ends with the exit defined here, whatever
-- its operands are. Next hop has no exit here, because it is lent nothing that it may write. Its contract is about its decision.
use Rattle.std.specs.Prelude.{ℕ, List, length}
use Rattle.counters.specs.declared.SequenceNumber.{SequenceNumber}
use Rattle.layout.specs.declared.address.Address.{Address}
use Rattle.rules.specs.declared.Arrival.{Arrival}
use Rattle.rules.specs.Exit.{Lent, Exit, at_exit, TableExit, table_at_exit}
use Rattle.rules.specs.Fresh.{make_fresh}
use Rattle.rules.specs.Forget.{forget}
use Rattle.rules.specs.Receive.{receive}
use Rattle.rules.specs.Originate.{announce, ask, root_request}
use Rattle.rules.specs.Break.{break_neighbour}
use Rattle.rules.specs.Walk.{Walked, walk, walked_at_exit}

-- ---- calls on the table t alone

abbrev pub fresh_exit : (t : List ℕ) → (own : Address) → SequenceNumber → TableExit
fresh_exit t own number = table_at_exit t (make_fresh t own number)

abbrev pub forget_exit : (t : List ℕ) → (destination : Address) → TableExit
forget_exit t destination = table_at_exit t (forget t destination)

-- ---- calls with an output

abbrev pub receive_exit : Lent → (output : List ℕ) → Arrival → (element : List ℕ) → Exit
receive_exit l output a element = at_exit l output (receive l (length output) a element)

abbrev pub ask_exit : Lent → (output : List ℕ) → (lifetime : ℕ) → (items : List ℕ) → Exit
ask_exit l output lifetime items = at_exit l output (ask l (length output) lifetime items)

abbrev pub announce_exit : Lent → (output : List ℕ) → (flags lifetime : ℕ) → Exit
announce_exit l output flags lifetime = at_exit l output (announce l (length output) flags lifetime)

abbrev pub root_request_exit : Lent → (output : List ℕ) → (flags lifetime : ℕ) → Exit
root_request_exit l output flags lifetime = at_exit l output (root_request l (length output) flags lifetime)

abbrev pub break_exit : Lent → (output : List ℕ) → (clock : ℕ) → (neighbour : Address) → Exit
break_exit l output clock neighbour = at_exit l output (break_neighbour l (length output) clock neighbour)

-- ---- the walk over tables side by side

abbrev pub walk_exit : (tables : List ℕ) → (count clock : ℕ) → (start destination : Address) → Walked
walk_exit tables count clock start destination = walked_at_exit (walk tables count clock start destination)
