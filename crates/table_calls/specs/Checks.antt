-- Defines what the check of forget says about the call. Only contracts of the code use the definition of this file. It is no part
-- of what a call is.
use Rattle.std.specs.Prelude.{ℕ, List, Result, Ok, Err}
use Rattle.refusals.specs.declared.Refusal.{Refusal}
use Rattle.layout.specs.Row.{free_row}
use Rattle.layout.specs.Layout.{put_row}
use Rattle.rules.specs.Decision.{Decision}

-- A forget frees the row at a place of the table, or is refused.
abbrev pub forget_decision : List ℕ → Result ℕ Refusal → Decision (List ℕ)
forget_decision t (Ok i) = Ok (put_row t i free_row)
forget_decision t (Err r) = Err r
