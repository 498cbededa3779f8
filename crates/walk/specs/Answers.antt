-- Defines the decision for each ending of a walk, and the numbers that the walk returns. PROTOCOL, 'Walk'.
use Rattle.std.specs.Prelude.{Result, Err, Ok}
use Rattle.refusals.specs.declared.Refusal.{Refusal}
use Rattle.rules.specs.Decision.{Decision}
use Rattle.rules.specs.Walk.{Walked, arrived, stopped, too_long}
use Rattle.walk.specs.declared.Ending.{Ending}
use Rattle.walk.specs.declared.Ending.TheVariants.{Arrived, Stopped, TooLong}
use Rattle.walk.specs.declared.Walked.{Walked as InNumbers}

-- Answers 0, 41 and 42 carry the hops walked.
abbrev pub walked : Ending → Walked
walked (Arrived h) = arrived h.0
walked (Stopped h) = stopped h.0
walked (TooLong h) = too_long h.0

abbrev pub walk_decision : Result Ending Refusal → Decision Walked
walk_decision (Ok e) = Ok (walked e)
walk_decision (Err r) = Err r

abbrev pub numbers_of : InNumbers → Walked
numbers_of w = record { answer = w.answer; hops = w.hops }
