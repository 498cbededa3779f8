-- Defines the call that receives an element. PROTOCOL, 'Refusals', 'Receiving' and 'Errors and breaks'. What is defined here:
--   arrival_checks, octet_checks, field_checks, row_checks  refusals 1 to 5, 6 to 8, 9 to 14, 24 to 27 (21 to 23: `state_checks`)
--   has_bad_address, has_bad_list, is_low_ttl_reply         refusals 9, 10 and 14 for each type
--   is_stale, matches_nothing, rows_needed                  what refusals 25, 26 and 27 judge
--   rann_received, rreq_received, rrep_received,            the effect of an accepted element of each type,
--   rerr_received, received                                 and of any type
--   judging, reading_octets, receiving                      the rulings for an element, for its octets and for the whole call
--   receive                                                 the decision
use Rattle.refusals.specs.declared.Refusal.TheVariants.{NoLink, ElementLength, UnknownId, BadCount, BadAddress, BadList}
use Rattle.refusals.specs.declared.Refusal.TheVariants.{NoLifetime, TooManyHops, MetricTooLarge, LowTtl, AboutItself, Stale}
use Rattle.refusals.specs.declared.Refusal.TheVariants.{NoMatch, NoRoom}
use Rattle.std.specs.Prelude.{ℕ, ◌+◌, Bool, false, not, ◌&&◌, ◌||◌, cond, List, ◌++◌, map, eqb, leb, ltb, length, Option}
use Rattle.std.specs.Prelude.{None, Some}
use Rattle.counters.specs.Numbers.{older}
use Rattle.layout.specs.declared.address.Address.{Address}
use Rattle.layout.specs.declared.row.Row.{Row}
use Rattle.layout.specs.Address.{individual, same}
use Rattle.table.specs.Table.{own, number, row_for, new_rows, free_rows, change_where}
use Rattle.element.specs.declared.PathInfo.{PathInfo}
use Rattle.element.specs.declared.LostDestination.{LostDestination}
use Rattle.element.specs.declared.NumberedAddress.{NumberedAddress}
use Rattle.element.specs.declared.Target.{Target}
use Rattle.element.specs.declared.RreqFields.{RreqFields}
use Rattle.element.specs.declared.RrepFields.{RrepFields}
use Rattle.element.specs.declared.RerrFields.{RerrFields}
use Rattle.element.specs.declared.list.ListKind.TheVariants.{Targets, LostDestinations}
use Rattle.element.specs.Element.{Element, rann, rreq, rrep, rerr}
use Rattle.element.specs.Octets.{wrong_length, other_id, misfit, read_element}
use Rattle.element.specs.Lists.{all_ones, any_forbidden, contains, has_duplicate, ones_beside_others}
use Rattle.rules.specs.Decision.{Decision, Check, Ruling, decide, refuse◌when◌, ◌then◌, ◌above◌, accept, ◌>>◌}
use Rattle.rules.specs.Checks.{operand_checks, state_checks}
use Rattle.rules.specs.Lists.{is_some_and, any, filter}
use Rattle.element.specs.Flags.{unicast, number_unknown}
use Rattle.rules.specs.Exit.{Lent, with_table, Effect, under_head}
use Rattle.rules.specs.declared.Arrival.{Arrival}
use Rattle.rules.specs.Learn.{metric_here, max_metric, max_hops, learnt}
use Rattle.rules.specs.Destinations.{Answered, all_answered}
use Rattle.rules.specs.Onward.{rann_onward, rreq_onward, rrep_onward, to_all}
use Rattle.rules.specs.Errors.{matches, is_match, erred}

-- ---- the fields that a RANN, a RREQ and a RREP share

-- A RERR has no path, so the checks of a path are skipped for it.
abbrev pub path_of : Element → Option PathInfo
path_of (rann p) = Some p
path_of (rreq f targets) = Some f.path
path_of (rrep f dependents) = Some f.path
path_of (rerr f destinations) = None

-- ---- refusals by the input

-- Refusals 1 to 5, for an element that arrived as `a` says, and an output of `room` octets.
unfoldable pub arrival_checks : List ℕ → ℕ → Arrival → List Check
arrival_checks t room a =
    -- 1 to 4
    operand_checks t room a.clock a.transmitter
    then refuse NoLink when eqb a.link.0 0

-- Refusals 6 to 8, for the octets of an element.
unfoldable pub octet_checks : List ℕ → List Check
octet_checks octets =
    refuse ElementLength when wrong_length octets
    then refuse UnknownId when other_id octets
    then refuse BadCount when misfit octets

abbrev pub target_addresses : List Target → List Address
target_addresses targets = map (λ (q : Target). q.address) targets

abbrev pub lost_addresses : List LostDestination → List Address
lost_addresses l = map (λ (m : LostDestination). m.address) l

-- 9. A received originator, source or destination is not individual, except that a RREQ's destination may be all ones. Dependents
-- are not judged.
unfoldable pub has_bad_address : Element → Bool
has_bad_address (rann p) = not (individual p.subject)
has_bad_address (rreq f targets) = not (individual f.path.subject) || any_forbidden Targets (target_addresses targets)
has_bad_address (rrep f dependents) = not (individual f.path.subject) || not (individual f.source.address)
has_bad_address (rerr f destinations) = any_forbidden LostDestinations (lost_addresses destinations)

-- Reports whether there are several destinations, or all ones.
unfoldable pub several_or_all : List Address → Bool
several_or_all addresses = ltb 1 (length addresses) || contains addresses all_ones

-- Reports whether the number of a destination is marked unknown although it is not 0.
abbrev pub is_mismarked : Target → Bool
is_mismarked q = number_unknown q && not (eqb q.number.0 0)

-- 10. A RREQ or a RERR names a destination twice; a RREQ names all ones and anything else; a RREQ names its own originator as a
-- destination; a unicast RREQ names several destinations, or all ones; a RREQ marks a number other than 0 unknown; the
-- destination of a RREP equals its source.
unfoldable pub has_bad_list : Element → Bool
has_bad_list (rann p) = false
has_bad_list (rreq f targets) =
    let addresses : List Address = target_addresses targets in
    has_duplicate addresses || ones_beside_others addresses || contains addresses f.path.subject
    || (unicast f.path && several_or_all addresses) || any is_mismarked targets
has_bad_list (rrep f dependents) = same f.path.subject f.source.address
has_bad_list (rerr f destinations) = has_duplicate (lost_addresses destinations)

-- 14. A received RREP has TTL 0 or 1.
unfoldable pub is_low_ttl_reply : Element → Bool
is_low_ttl_reply (rann p) = false
is_low_ttl_reply (rreq f targets) = false
is_low_ttl_reply (rrep f dependents) = ltb f.path.ttl 2
is_low_ttl_reply (rerr f destinations) = false

-- Refusals 9 to 14, for the fields of an element. `bad_address`, `bad_list` and `low_ttl` are 9, 10 and 14, which depend on the
-- type. Refusals 11, 12 and 13 judge the path: lifetime 0, hop count 255, and received metric + link metric above
-- 4,294,967,294.
unfoldable pub field_checks : (bad_address bad_list low_ttl : Bool) → Arrival → Option PathInfo → List Check
field_checks bad_address bad_list low_ttl a path =
    refuse BadAddress when bad_address
    then refuse BadList when bad_list
    then refuse NoLifetime when is_some_and (λ p. eqb p.lifetime 0) path
    then refuse TooManyHops when is_some_and (λ p. eqb p.hops.0 max_hops) path
    then refuse MetricTooLarge when is_some_and (λ p. (metric_here a p).0 above max_metric) path
    then refuse LowTtl when low_ttl

-- ---- refusals by the state

-- Refusal 25 for one row. The row's number is known, and the received number is older, or it is equal and the received metric
-- plus the link metric is not smaller than the row's metric.
unfoldable pub is_stale_for : Arrival → PathInfo → Row → Bool
is_stale_for a p r =
    eqb r.known 1
    && (older p.number r.number || (eqb p.number.0 r.number.0 && leb r.metric.0 (metric_here a p).0))

-- 25. The subject has a held row, active or not, for which `is_stale_for` holds.
unfoldable pub is_stale : List ℕ → Arrival → PathInfo → Bool
is_stale t a p = is_some_and (is_stale_for a p) (row_for t p.subject)

-- 26. A RERR has no match: it names no destination with an active row of known number whose next hop is the transmitter.
unfoldable pub matches_nothing : List ℕ → Arrival → Element → Bool
matches_nothing t a (rann p) = false
matches_nothing t a (rreq f targets) = false
matches_nothing t a (rrep f dependents) = false
matches_nothing t a (rerr f destinations) = not (any (matches t a.clock a.transmitter) destinations)

-- 27. Returns how many new rows the call needs. It needs a row for the subject if none is held for the subject, and a row for the
-- transmitter if the transmitter is not the subject and none is held for the transmitter.
unfoldable pub rows_needed : List ℕ → Arrival → PathInfo → ℕ
rows_needed t a p =
    new_rows (row_for t p.subject) + cond (same a.transmitter p.subject) 0 (new_rows (row_for t a.transmitter))

-- Refusals 24 to 27, for the rows of the table. `unmatched` is 26, which only a RERR can meet. Refusals 24, 25 and 27 judge the
-- path.
abbrev pub row_checks : List ℕ → Arrival → (unmatched : Bool) → Option PathInfo → List Check
row_checks t a unmatched path =
    refuse AboutItself when is_some_and (λ p. same p.subject (own t)) path
    then refuse Stale when is_some_and (is_stale t a) path
    then refuse NoMatch when unmatched
    then refuse NoRoom when is_some_and (λ p. rows_needed t a p above free_rows t) path

-- ---- the effect of an accepted element: for every type, the clock is stored

module _ (l : Lent) (a : Arrival) where
  -- RANN: the point does steps 1 and 2, and then forwards the RANN as 'Forwarding' says.
  unfoldable pub rann_received : PathInfo → Effect
  rann_received p =
      let t : List ℕ = l.table in
      let u : List ℕ = learnt a p t in
      record { lent = with_table (under_head t (number t) a.clock u) l; frames = rann_onward a p }

  -- RREP: the point does steps 1 and 2, and then forwards the RREP as 'Forwarding' says.
  unfoldable pub rrep_received : RrepFields → List NumberedAddress → Effect
  rrep_received f dependents =
      let t : List ℕ = l.table in
      let u : List ℕ = learnt a f.path t in
      record { lent = with_table (under_head t (number t) a.clock u) l; frames = rrep_onward u a f dependents }

  -- RREQ: the point does steps 1 and 2 and replies, and then forwards the RREQ with the kept destinations as 'Forwarding' says.
  unfoldable pub rreq_received : RreqFields → List Target → Effect
  rreq_received f targets =
      let t : List ℕ = l.table in
      let u : List ℕ = learnt a f.path t in
      let done : Answered = all_answered u a f.path (number t) targets in
      record {
        lent = with_table (under_head t done.number a.clock u) l;
        frames = done.replies ++ rreq_onward u a f done.kept;
      }

  -- RERR: the point invalidates the row of each match. It sends one RERR to all ones with the flags as received and the matches
  -- in their order, each with the number as received.
  unfoldable pub rerr_received : RerrFields → List LostDestination → Effect
  rerr_received f destinations =
      let t : List ℕ = l.table in
      let u : List ℕ = change_where (is_match a.clock a.transmitter destinations) (erred destinations) t in
      record {
        lent = with_table (under_head t (number t) a.clock u) l;
        frames = to_all (rerr f (filter (matches t a.clock a.transmitter) destinations));
      }

  unfoldable pub received : Element → Effect
  received (rann p) = rann_received p
  received (rreq f targets) = rreq_received f targets
  received (rrep f dependents) = rrep_received f dependents
  received (rerr f destinations) = rerr_received f destinations

-- ---- the call

-- The ruling for an element e that arrived as `a` says, after refusals 1 to 8.
unfoldable pub judging : Lent → Arrival → Element → Ruling Effect
judging l a e = do
  -- 9 to 14
  field_checks (has_bad_address e) (has_bad_list e) (is_low_ttl_reply e) a (path_of e)
  -- 21 to 23
  state_checks l.table a.clock a.transmitter
  -- 24 to 27
  row_checks l.table a (matches_nothing l.table a e) (path_of e)
  accept (received l a e)

-- The ruling for the octets of an element, after refusals 1 to 5.
unfoldable pub reading_octets : Lent → Arrival → List ℕ → Ruling Effect
reading_octets l a octets = do
  -- 6 to 8
  octet_checks octets
  judging l a (read_element octets)

-- The ruling for the whole call: what is lent, an output of `room` octets, how the element arrived, and its octets.
abbrev pub receiving : Lent → ℕ → Arrival → List ℕ → Ruling Effect
receiving l room a octets = do
  -- 1 to 5
  arrival_checks l.table room a
  reading_octets l a octets

unfoldable pub receive : Lent → ℕ → Arrival → List ℕ → Decision Effect
receive l room a octets = decide (receiving l room a octets)
