-- These are NOT the rules. Each wrong rule changes one sentence of `docs/PROTOCOL.md` and is otherwise put together from the
-- rules' own parts. The wrong rules serve only to show, by lists of calls (`Runs.antt`), that demand 3 excludes them. The first
-- and the third are errors of trainees (PROTOCOL, 'Edges').
use Rattle.refusals.specs.Numbers.{number_of}
use Rattle.std.specs.Prelude.{ℕ, Bool, true, false, not, ◌&&◌, cond, List, map, eqb, ltb}
use Rattle.layout.specs.declared.address.Address.{Address}
use Rattle.layout.specs.declared.row.Row.{Row}
use Rattle.layout.specs.Row.{active, free_row, invalidated, raised, is_through}
use Rattle.table.specs.Table.{number, row_for, change_where}
use Rattle.element.specs.declared.PathInfo.{PathInfo}
use Rattle.element.specs.Element.{Element, rann, rreq, rrep, rerr}
use Rattle.element.specs.Octets.{read_element}
use Rattle.rules.specs.Decision.{Check, Ruling, decide}
use Rattle.rules.specs.Lists.{is_some_and}
use Rattle.rules.specs.Exit.{Lent, with_table, Effect, under_head}
use Rattle.rules.specs.declared.Arrival.{Arrival}
use Rattle.rules.specs.Receive.{path_of, is_stale_for, receiving}
use Rattle.rules.specs.Break.{broken_off, breaking}
use Rattle.rules.specs.Calls.{receives, makes, asks, announces, requests_as_root, breaks, decision}
use Rattle.theorems.specs.Mesh.{Rules}

-- ---- the rules with one thing changed

-- Returns a ruling in which the check of the refusal with number n has another test. The other checks and the effect stay.
abbrev pub with_check : {A : Type 0} → ℕ → Bool → Ruling A → Ruling A
with_check n test r =
    record {
      checks =
          map (λ (k : Check). cond (eqb (number_of k.refusal) n) (record { refusal = k.refusal; applies = test }) k) r.checks;
      otherwise = r.otherwise;
    }

-- Returns a ruling with another effect. The checks stay.
abbrev pub with_effect : {A : Type 0} → A → Ruling A → Ruling A
with_effect a r = record { checks = r.checks; otherwise = a }

-- Returns the rules with other rulings for receive and break.
unfoldable pub ruled_by :
    (Lent → ℕ → Arrival → List ℕ → Ruling Effect) → (Lent → ℕ → ℕ → Address → Ruling Effect) → Rules
ruled_by receive break l room (receives a s) = decide (receive l room a s)
ruled_by receive break l room (makes (asks lifetime items)) = decision l room (makes (asks lifetime items))
ruled_by receive break l room (makes (announces flags lifetime)) = decision l room (makes (announces flags lifetime))
ruled_by receive break l room (makes (requests_as_root flags lifetime)) =
    decision l room (makes (requests_as_root flags lifetime))
ruled_by receive break l room (makes (breaks c neighbour)) = decide (break l room c neighbour)

-- Returns the ruling of receive in which refusal 25 uses another test of the element and the row.
abbrev pub receiving_by : (Element → Arrival → PathInfo → Row → Bool) → Lent → ℕ → Arrival → List ℕ → Ruling Effect
receiving_by stale l room a s =
    let e : Element = read_element s in
    with_check 25 (is_some_and (λ p. is_some_and (stale e a p) (row_for l.table p.subject)) (path_of e)) (receiving l room a s)

-- Returns the rules with another test for refusal 25.
abbrev pub with25 : (Element → Arrival → PathInfo → Row → Bool) → Rules
with25 stale = ruled_by (receiving_by stale) breaking

-- Returns the ruling of a break that changes the active rows through the neighbour by f. The RERRs stay as they are under the
-- rules: they carry the stepped numbers.
abbrev pub breaking_by : (Row → Row) → Lent → ℕ → ℕ → Address → Ruling Effect
breaking_by f l room c neighbour =
    let t : List ℕ = l.table in
    let u : List ℕ = change_where (is_through c neighbour) f t in
    with_effect
    (record { lent = with_table (under_head t (number t) c u) l; frames = (broken_off l c (is_through c neighbour)).frames })
    (breaking l room c neighbour)

-- Returns the rules with another change of the rows that break.
abbrev pub with_broken : (Row → Row) → Rules
with_broken f = ruled_by receiving (breaking_by f)

-- ---- wrong in refusal 25

-- Reports whether a path and a row have equal numbers.
abbrev pub same_number : PathInfo → Row → Bool
same_number p r = eqb p.number.0 r.number.0

-- Reports whether an element is a RREP.
abbrev pub is_reply : Element → Bool
is_reply (rann p) = false
is_reply (rreq f targets) = false
is_reply (rrep f dependents) = true
is_reply (rerr f destinations) = false

-- Refusal 25 compares numbers as plain numbers. The other rules stay.
abbrev pub compares_plainly : Rules
compares_plainly =
    with25
    (λ e a p r. cond (same_number p r) (is_stale_for a p r) (eqb r.known 1 && ltb p.number.0 r.number.0))

-- Refusal 25 lets a RREP with an equal number pass at any metric, as the draft does (PROTOCOL, 'Departures from the draft').
abbrev pub takes_equal_replies : Rules
takes_equal_replies = with25 (λ e a p r. is_stale_for a p r && not (is_reply e && same_number p r))

-- Refusal 25 lets an equal number pass at any metric if the row is inactive.
abbrev pub takes_equal_if_inactive : Rules
takes_equal_if_inactive = with25 (λ e a p r. is_stale_for a p r && not (not (active a.clock r) && same_number p r))

-- ---- wrong in a break

-- A break frees the rows that it should invalidate.
abbrev pub drops_broken : Rules
drops_broken = with_broken (λ r. free_row)

-- A break does not step the numbers of the rows that it invalidates.
abbrev pub keeps_number : Rules
keeps_number = with_broken (λ r. cond (eqb r.known 1) (raised r.number (invalidated r)) (invalidated r))
