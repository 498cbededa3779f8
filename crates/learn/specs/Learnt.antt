-- Defines the table that `learn_by_rows` leaves. `learn_by_rows` both checks the rows and learns. Only contracts of the code use
-- the definitions of this file.
use Rattle.rules.specs.Decision.{Decision}
use Rattle.std.specs.Prelude.{ℕ, List, ⊤, Ok, Err}
use Rattle.element.specs.declared.PathInfo.{PathInfo}
use Rattle.rules.specs.declared.Arrival.{Arrival}
use Rattle.rules.specs.Learn.{learnt}

-- Returns the table t after the checks of an element with the path p. If the checks accept, the point learns from the element. If
-- the checks refuse, t is unchanged.
abbrev pub learnt_if : Decision ⊤ → Arrival → PathInfo → List ℕ → List ℕ
learnt_if (Ok u) a p t = learnt a p t
learnt_if (Err n) a p t = t
