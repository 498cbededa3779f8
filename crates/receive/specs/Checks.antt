-- Defines the checks of `judging` as the functions of the code go through them: for a RANN, a RREQ or a RREP by its faults and
-- its path, and for a RERR by its list part. Only contracts of the code use the definitions of this file.
use Rattle.std.specs.Prelude.{ℕ, false, not, List, ◌++◌, None, Some}
use Rattle.element.specs.declared.PathInfo.{PathInfo}
use Rattle.element.specs.Element.{Element}
use Rattle.element.specs.Entries.{lost_in}
use Rattle.rules.specs.declared.Arrival.{Arrival}
use Rattle.rules.specs.Decision.{Check}
use Rattle.rules.specs.Checks.{state_checks}
use Rattle.rules.specs.Errors.{matches}
use Rattle.rules.specs.Lists.{any}
use Rattle.rules.specs.Receive.{field_checks, has_bad_address, has_bad_list, is_low_ttl_reply, row_checks}
use Rattle.receive.specs.declared.faults.Faults.{Faults}

-- Reports whether refusals 9, 10 and 14 apply to an element with a path. Their tests depend on its type.
unfoldable pub faults_of : Element → Faults
faults_of e = record { address = has_bad_address e; list = has_bad_list e; ttl = is_low_ttl_reply e }

-- Returns the state checks of an element with the path p: 21 to 25 and 27.
abbrev pub path_state_checks : List ℕ → Arrival → PathInfo → List Check
path_state_checks t a p = state_checks t a.clock a.transmitter ++ row_checks t a false (Some p)

-- Returns the state checks of a RERR with this list part: 21 to 23 and 26.
abbrev pub error_state_checks : List ℕ → Arrival → List ℕ → List Check
error_state_checks t a part =
    state_checks t a.clock a.transmitter
    ++ row_checks t a (not (any (matches t a.clock a.transmitter) (lost_in part))) None

-- Returns all checks of an element with the path p and the faults x, after refusals 1 to 8.
abbrev pub path_checks : List ℕ → Arrival → PathInfo → Faults → List Check
path_checks t a p x = field_checks x.address x.list x.ttl a (Some p) ++ path_state_checks t a p
