-- Defines the result of reading an element: one of refusals 6 to 8, or its fixed fields. PROTOCOL, 'Elements' and 'Refusals'.
use Rattle.std.specs.Prelude.{cond, List, ℕ, Result, Ok, Err}
use Rattle.refusals.specs.declared.Refusal.{Refusal}
use Rattle.refusals.specs.declared.Refusal.TheVariants.{ElementLength, UnknownId, BadCount}
use Rattle.element.specs.Element.{Element, rann, rreq, rrep, rerr}
use Rattle.element.specs.Octets.{wrong_length, other_id, misfit, read_element}
use Rattle.reading.specs.declared.Fields.{Fields}
use Rattle.reading.specs.declared.Fields.TheVariants.{Announcement, Request, Reply, Error}

-- Returns the fixed fields of an element that is not refused. The list part stays in the caller's octets.
abbrev pub fixed_fields : Element → Fields
fixed_fields (rann p) = Announcement p
fixed_fields (rreq f targets) = Request f
fixed_fields (rrep f dependents) = Reply f
fixed_fields (rerr f destinations) = Error f

-- Returns the first of refusals 6 to 8 that applies, or the fixed fields if none applies.
unfoldable pub reading : List ℕ → Result Fields Refusal
reading s =
    cond (wrong_length s) (Err ElementLength)
    (cond (other_id s) (Err UnknownId)
    (cond (misfit s) (Err BadCount) (Ok (fixed_fields (read_element s)))))
