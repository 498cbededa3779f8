-- Defines what the calls return to C. PROTOCOL, 'Frames and answers'.
use Rattle.calls.specs.declared.Emitted.{Emitted}
use Rattle.refusals.specs.Numbers.{number_of}
use Rattle.std.specs.Prelude.{ℕ, List, Err, Ok}
use Rattle.octets.specs.LittleEndian.{zeros}
use Rattle.layout.specs.declared.address.Address.{Address}
use Rattle.layout.specs.Address.{octets_of}
use Rattle.rules.specs.Decision.{Decision}
use Rattle.rules.specs.Exit.{Lent, Exit}
use Rattle.hwmp.specs.declared.HwmpHop.{HwmpHop}
use Rattle.hwmp.specs.declared.HwmpOutcome.{HwmpOutcome}

-- Returns answer 0 and the next hop, or the refusal's number and zeros.
abbrev pub hop_for_c : Decision Address → HwmpHop
hop_for_c (Ok a) = record { answer = 0; address = octets_of a }
hop_for_c (Err r) = record { answer = number_of r; address = zeros 6 }

-- Returns answer 0 with the counts of frames and octets written, or the refusal's number and zeros.
abbrev pub outcome_for_c : Decision Emitted → HwmpOutcome
outcome_for_c (Ok e) = record { answer = 0; frames = e.frames; octets = e.octets }
outcome_for_c (Err r) = record { answer = number_of r; frames = 0; octets = 0 }

-- Returns the exit of a call, from what C receives and from what the call leaves in the lent buffers and in the output.
abbrev pub exit_for_c : HwmpOutcome → Lent → List ℕ → Exit
exit_for_c r l output = record { answer = r.answer; frames = r.frames; octets = r.octets; lent = l; output = output }
