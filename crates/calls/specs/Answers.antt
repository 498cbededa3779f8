-- Defines the exit that each answer of the code stands for. PROTOCOL, 'Frames and answers'.
use Rattle.std.specs.Prelude.{ℕ, List, length, ⊤, Ok, Err}
use Rattle.refusals.specs.Numbers.{answer_of, number_of}
use Rattle.rules.specs.Decision.{Check, Decision, judged}
use Rattle.rules.specs.Exit.{Frame, Lent, frame_octets, Exit, TableExit}
use Rattle.calls.specs.declared.Emitted.{Emitted}

-- Returns the exit of a call without frames, from its answer and the table that it leaves.
abbrev pub table_exit_of : Decision ⊤ → List ℕ → TableExit
table_exit_of a t = record { answer = answer_of a; table = t }

-- Returns the answer to a list of checks: a refusal by the first check that applies, otherwise an acceptance.
unfoldable pub answer_to : List Check → Decision ⊤
answer_to checks = judged checks tt

-- Returns how many frames there are in a list, and how many octets they have.
abbrev pub emitted : List Frame → Emitted
emitted frames = record { frames = length frames; octets = length (frame_octets frames) }

-- Returns the exit of a call that may emit frames, from its outcome, the `Lent` that it leaves, and the output that it leaves.
abbrev pub exit_of : Decision Emitted → Lent → List ℕ → Exit
exit_of (Ok e) l output = record { answer = 0; frames = e.frames; octets = e.octets; lent = l; output = output }
exit_of (Err r) l output = record { answer = number_of r; frames = 0; octets = 0; lent = l; output = output }
