-- Defines three lists of tests of the definitions: `edges` for P1 to P8, `shut_out` for the trainees' errors, and
-- `further_cases` for U1 to U6. PROTOCOL, 'Edges'. Tables and elements are octets.
use Rattle.refusals.specs.Numbers.{number_of}
use Rattle.std.specs.Prelude.{ℕ, ◌+◌, ◌-◌, ◌*◌, Bool, true, false, ◌&&◌, ◌||◌, not, Err, Ok}
use Rattle.std.specs.Prelude.{List, [], ◌∷◌, ◌++◌, eqb, length, get_or, set, drop}
use Rattle.octets.specs.LittleEndian.{number_octets, zeros}
use Rattle.counters.specs.Numbers.{newer, older}
use Rattle.layout.specs.declared.address.Address.{Address}
use Rattle.layout.specs.declared.row.Row.{Row}
use Rattle.layout.specs.Address.{same}
use Rattle.layout.specs.Layout.{put_row}
use Rattle.layout.specs.Row.{free_row}
use Rattle.table.specs.Places.{every}
use Rattle.table.specs.Table.{number, row_for, holds, fresh}
use Rattle.element.specs.declared.Kind.TheVariants.{Rreq}
use Rattle.element.specs.declared.LostDestination.{LostDestination}
use Rattle.element.specs.declared.PathInfo.{PathInfo}
use Rattle.element.specs.declared.Target.{Target}
use Rattle.element.specs.Element.{Element, rann, rreq, rrep, rerr, count_of}
use Rattle.element.specs.Layout.{fits}
use Rattle.element.specs.Entries.{each}
use Rattle.element.specs.Lists.{all_ones}
use Rattle.element.specs.Octets.{wrong_length, other_id, misfit, write_element}
use Rattle.rules.specs.Decision.{Decision}
use Rattle.rules.specs.Lists.{is_some_and, all}
use Rattle.rules.specs.Exit.{Frame, lend, Effect, least_output}
use Rattle.rules.specs.Errors.{own_error}
use Rattle.rules.specs.Receive.{receive}
use Rattle.rules.specs.Originate.{ask, root_request}
use Rattle.rules.specs.Break.{break_neighbour}

-- ---- addresses

-- The address of this point.
abbrev point : Address
point = record { 0 = 2 }

-- The transmitter of each element below, and the broken neighbour.
abbrev transmitter : Address
transmitter = record { 0 = 4 }

-- The originator of each RANN and RREQ below, and a destination that RERRs name.
abbrev originator : Address
originator = record { 0 = 6 }

-- Returns the address of another point. The other points are numbered from 0.
abbrev other : ℕ → Address
other i = record { 0 = 8 + 2 * i }

-- ---- tables

-- Returns the row for d with this status, known number n and metric. The next hop is the transmitter, and the expiry is 1000.
abbrev row : ℕ → Address → ℕ → ℕ → Row
row status d n metric =
    record {
      status = status;
      known = 1;
      hops = record { 0 = 2 };
      zero = 0;
      destination = d;
      next = transmitter;
      number = record { 0 = n };
      metric = record { 0 = metric };
      expiry = 1000;
    }

-- Returns a valid row for another point.
abbrev held_for : ℕ → Row
held_for i = row 1 (other i) 1 10

-- Returns the table t with these rows from place i on.
abbrev with_rows : List ℕ → ℕ → List Row → List ℕ
with_rows t i [] = t
with_rows t i (r ∷ rs) = with_rows (put_row t i r) (i + 1) rs

-- Returns the table of this point with own number n and these rows.
abbrev table_with : ℕ → List Row → List ℕ
table_with n rs = with_rows (fresh (32 + 32 * length rs) point (record { 0 = n })) 0 rs

-- A table with R = 4, in which rows 0 and 2 are held.
abbrev scattered : List ℕ
scattered = table_with 0 (held_for 0 ∷ free_row ∷ held_for 1 ∷ free_row ∷ [])

-- ---- elements

-- Returns the path fields of an element of the originator, with number n and this metric.
abbrev path : ℕ → ℕ → PathInfo
path n metric =
    record {
      flags = 0;
      hops = record { 0 = 1 };
      ttl = 30;
      subject = originator;
      number = record { 0 = n };
      lifetime = 1000;
      metric = record { 0 = metric };
    }

-- Returns a RANN with number n and this metric.
abbrev announcement : ℕ → ℕ → List ℕ
announcement n metric = write_element (rann (path n metric))

-- Returns a RREQ with these destinations.
abbrev request : List Target → List ℕ
request targets = write_element (rreq (record { request = record { 0 = 1 }; path = path 1 5 }) targets)

-- Returns the destination d of a RREQ, with these flags and requested number n.
abbrev target_with : ℕ → Address → ℕ → Target
target_with flags d n = record { flags = flags; address = d; number = record { 0 = n } }

-- Returns the destination d of a RREQ, with flags 0 and requested number n.
abbrev target : Address → ℕ → Target
target d n = target_with 0 d n

-- Returns a RREQ for n other points.
abbrev request_for : ℕ → List ℕ
request_for n = request (each (λ i. target (other i) 0) 0 n)

-- Returns the octets s of a RREQ with N replaced by n. N follows ID, Length and 25 octets of fields.
abbrev recounted : ℕ → List ℕ → List ℕ
recounted n s = set s 27 n

-- Returns the entry of a RERR that names d with number n.
abbrev lost : Address → ℕ → LostDestination
lost d n = record { address = d; number = record { 0 = n } }

-- Returns a RERR with these entries.
abbrev error : List LostDestination → List ℕ
error destinations = write_element (rerr own_error destinations)

-- ---- a call

-- Returns the decision when this point, with table t, receives the element s over a link of this metric at clock c.
abbrev heard_at : ℕ → List ℕ → ℕ → List ℕ → Decision Effect
heard_at c t link s =
    receive (lend t) least_output (record { clock = c; transmitter = transmitter; link = record { 0 = link } }) s

-- Returns the decision at clock 0.
abbrev heard : List ℕ → ℕ → List ℕ → Decision Effect
heard t link s = heard_at 0 t link s

-- Returns the decision at clock 0, with a fresh table of one row and over a link of metric 10.
abbrev heard_first : List ℕ → Decision Effect
heard_first s = heard (fresh 64 point (record { 0 = 0 })) 10 s

-- ---- tests

-- Reports whether the octets s have this Length and pass refusals 6, 7 and 8.
abbrev fitting : ℕ → List ℕ → Bool
fitting long s = eqb (get_or s 1 0) long && not (wrong_length s || other_id s || misfit s)

-- Reports whether a call is refused with n.
abbrev refused_with : ℕ → Decision Effect → Bool
refused_with n (Err r) = eqb (number_of r) n
refused_with n (Ok e) = false

-- Reports whether a call is accepted and its effect passes this test.
abbrev accepted_with : (Effect → Bool) → Decision Effect → Bool
accepted_with test (Err m) = false
accepted_with test (Ok e) = test e

-- Reports whether an effect leaves the originator a row with this status, number n and this metric.
abbrev leaves_row : ℕ → ℕ → ℕ → Effect → Bool
leaves_row status n metric e =
    is_some_and (λ r. eqb r.status status && eqb r.number.0 n && eqb r.metric.0 metric)
    (row_for e.lent.table originator)

-- Reports whether an element is a reply for d with number n.
abbrev is_reply_for : Address → ℕ → Element → Bool
is_reply_for d n (rann p) = false
is_reply_for d n (rreq f targets) = false
is_reply_for d n (rrep f dependents) = same f.path.subject d && eqb f.path.number.0 n
is_reply_for d n (rerr f destinations) = false

-- Reports whether the first frame has a reply for d with number n.
abbrev first_is_reply : Address → ℕ → List Frame → Bool
first_is_reply d n [] = false
first_is_reply d n (f ∷ frames) = is_reply_for d n f.element

-- Reports whether the first frame has a reply for this point with number n, and the own number at the end is n.
abbrev replies_with : ℕ → Effect → Bool
replies_with n e = first_is_reply point n e.frames && eqb (number e.lent.table).0 n

-- Reports whether an effect leaves row i held for the originator and row j held for the transmitter.
abbrev takes_rows : ℕ → ℕ → Effect → Bool
takes_rows i j e = holds e.lent.table originator i && holds e.lent.table transmitter j

-- Reports whether an effect leaves row i as it was in t, octet by octet.
abbrev keeps_row : List ℕ → ℕ → Effect → Bool
keeps_row t i e = every (λ k. eqb (get_or e.lent.table (32 + 32 * i + k) 0) (get_or t (32 + 32 * i + k) 0)) 32

-- ---- the edges

abbrev pub edges : List Bool
edges =
    -- P1: 0 is newer than 4,294,967,295.
    newer (record { 0 = 0 }) (record { 0 = 4294967295 })
    -- P2: 2,147,483,648 and 0 are each older than the other.
    ∷ older (record { 0 = 2147483648 }) (record { 0 = 0 })
    ∷ older (record { 0 = 0 }) (record { 0 = 2147483648 })
    -- P3: RREQ Lengths 37 and 246 fit; 26 and 257 cannot.
    ∷ fitting 37 (request_for 1)
    ∷ fitting 246 (request_for 20)
    -- Length 37 fits with N = 1 alone, and Length 246 with N = 20 alone.
    ∷ every (λ n. eqb n 1 || not (fits Rreq 37 n)) 256
    ∷ every (λ n. eqb n 20 || not (fits Rreq 246 n)) 256
    ∷ refused_with 8 (heard_first (recounted 2 (request_for 1)))
    ∷ refused_with 8 (heard_first (recounted 19 (request_for 20)))
    -- Lengths 26 and 257 fit with no N. An element of 259 octets is refused (6) whatever its Length octet is.
    ∷ every (λ n. refused_with 8 (heard_first (130 ∷ 26 ∷ zeros 25 ++ n ∷ []))) 256
    ∷ every (λ n. not (fits Rreq 257 n)) 256
    ∷ every (λ long. wrong_length (130 ∷ long ∷ zeros 257)) 256
    -- P4: RERR Length 2 is refused (8), 12 fits.
    ∷ refused_with 8 (heard (table_with 0 (row 1 originator 9 40 ∷ [])) 10 (132 ∷ 2 ∷ 0 ∷ 0 ∷ []))
    ∷ fitting 12 (error (lost originator 9 ∷ []))
    ∷ accepted_with (leaves_row 2 9 40) (heard (table_with 0 (row 1 originator 9 40 ∷ [])) 10 (error (lost originator 9 ∷ [])))
    -- P5: row number 9, metric 40; element 9, metric 25: link 15 is refused (25), link 14 gives 39.
    ∷ refused_with 25 (heard (table_with 0 (row 1 originator 9 40 ∷ free_row ∷ [])) 15 (announcement 9 25))
    ∷ accepted_with (leaves_row 1 9 39) (heard (table_with 0 (row 1 originator 9 40 ∷ free_row ∷ [])) 14 (announcement 9 25))
    -- P5 with an invalidated row.
    ∷ refused_with 25 (heard (table_with 0 (row 2 originator 9 40 ∷ free_row ∷ [])) 15 (announcement 9 25))
    ∷ accepted_with (leaves_row 1 9 39) (heard (table_with 0 (row 2 originator 9 40 ∷ free_row ∷ [])) 14 (announcement 9 25))
    -- P6: break on number 4,294,967,295, metric 30: number 0, metric 4,294,967,295.
    ∷ accepted_with (leaves_row 2 0 4294967295)
    (break_neighbour (lend (table_with 0 (row 1 originator 4294967295 30 ∷ []))) least_output 0 transmitter)
    -- P7: own 12, requested 40: reply 41; requested 5: 13.
    ∷ accepted_with (replies_with 41) (heard (table_with 12 (free_row ∷ free_row ∷ [])) 10 (request (target point 40 ∷ [])))
    ∷ accepted_with (replies_with 13) (heard (table_with 12 (free_row ∷ free_row ∷ [])) 10 (request (target point 5 ∷ [])))
    -- P8: R = 4, rows 0 and 2 held, two needed: 1 and 3 taken, and 0 and 2 stay as they are; rows 0, 1, 2 held: 27.
    ∷ accepted_with (takes_rows 1 3) (heard scattered 10 (announcement 9 25))
    ∷ accepted_with (λ e. keeps_row scattered 0 e && keeps_row scattered 2 e) (heard scattered 10 (announcement 9 25))
    ∷ refused_with 27 (heard (table_with 0 (held_for 0 ∷ held_for 1 ∷ held_for 2 ∷ free_row ∷ [])) 10 (announcement 9 25))
    ∷ []

-- ---- trainees' errors to shut out

-- Returns a valid row for another point, with a next hop other than the transmitter.
abbrev elsewhere : ℕ → Row
elsewhere i =
    record {
      status = 1;
      known = 1;
      hops = record { 0 = 2 };
      zero = 0;
      destination = other i;
      next = other (i + 1);
      number = record { 0 = 1 };
      metric = record { 0 = 10 };
      expiry = 1000;
    }

-- Reports whether an effect invalidates the originator's row, leaves the row of the other point valid, and has one frame with
-- one entry.
abbrev loses_one : Effect → Bool
loses_one e =
    leaves_row 2 9 40 e && is_some_and (λ r. eqb r.status 1) (row_for e.lent.table (other 0))
    && eqb (length e.frames) 1 && all (λ f. eqb (count_of f.element) 1) e.frames

abbrev pub shut_out : List Bool
shut_out =
    -- Comparing numbers unsigned, in refusal 25: 4,294,967,295 is refused after 0, and 0 is accepted after 4,294,967,295.
    refused_with 25 (heard (table_with 0 (row 1 originator 0 40 ∷ free_row ∷ [])) 1 (announcement 4294967295 5))
    ∷ accepted_with (leaves_row 1 0 6)
    (heard (table_with 0 (row 1 originator 4294967295 40 ∷ free_row ∷ [])) 1 (announcement 0 5))
    -- Comparing numbers unsigned, in a reply for the own address: own 4,294,967,295, requested 0: reply 1.
    ∷ accepted_with (replies_with 1) (heard (table_with 4294967295 (free_row ∷ free_row ∷ [])) 10 (request (target point 0 ∷ [])))
    -- Comparing numbers unsigned, in an intermediate reply: a row with number 0 answers if 4,294,967,295 is requested.
    ∷ accepted_with (λ e. first_is_reply (other 0) 0 e.frames)
    (heard (table_with 0 (row 1 (other 0) 0 10 ∷ free_row ∷ free_row ∷ [])) 10 (request (target (other 0) 4294967295 ∷ [])))
    -- Comparing numbers unsigned, in a RERR: a row with 4,294,967,295 takes 0 and metric 4,294,967,295. A row with 0 does not
    -- take 4,294,967,295, and keeps its metric.
    ∷ accepted_with (leaves_row 2 0 4294967295)
    (heard (table_with 0 (row 1 originator 4294967295 40 ∷ [])) 10 (error (lost originator 0 ∷ [])))
    ∷ accepted_with (leaves_row 2 0 40)
    (heard (table_with 0 (row 1 originator 0 40 ∷ [])) 10 (error (lost originator 4294967295 ∷ [])))
    -- An equal number into an inactive row at a worse metric: refused (25), whether the row is invalidated or expired.
    ∷ refused_with 25 (heard (table_with 0 (row 2 originator 9 40 ∷ free_row ∷ [])) 36 (announcement 9 5))
    ∷ refused_with 25 (heard_at 1000 (table_with 0 (row 1 originator 9 40 ∷ free_row ∷ [])) 36 (announcement 9 5))
    -- Matching an error by destination only: a row with another next hop is no match (26).
    ∷ refused_with 26 (heard (table_with 0 (elsewhere 0 ∷ [])) 10 (error (lost (other 0) 9 ∷ [])))
    -- A row with another next hop is no match either if the RERR also names a match. The row stays, and the RERR that the point
    -- sends does not name it.
    ∷ accepted_with loses_one
    (heard (table_with 0 (row 1 originator 9 40 ∷ elsewhere 0 ∷ [])) 10 (error (lost (other 0) 9 ∷ lost originator 9 ∷ [])))
    ∷ []

-- ---- further cases: unknown numbers

-- Returns a valid row of unknown number for the originator, as a point makes it for its neighbour.
abbrev unnumbered : Row
unnumbered =
    record {
      status = 1;
      known = 0;
      hops = record { 0 = 1 };
      zero = 0;
      destination = originator;
      next = originator;
      number = record { 0 = 0 };
      metric = record { 0 = 10 };
      expiry = 1000;
    }

-- Returns the decision when this point, with own number 3,000,000,000, is asked for destinations.
abbrev asked_at_3_billion : List Target → Decision Effect
asked_at_3_billion targets = heard (table_with 3000000000 (free_row ∷ free_row ∷ [])) 10 (request targets)

-- Returns the decision when this point, with a row of number 3,000,000,000 for another point, is asked for the other point, with
-- these flags and number 0.
abbrev asked_beside_3_billion : ℕ → Decision Effect
asked_beside_3_billion flags =
    heard (table_with 0 (row 1 (other 0) 3000000000 10 ∷ free_row ∷ free_row ∷ [])) 10
    (request (target_with flags (other 0) 0 ∷ []))

-- Returns the decision when this point, with this row, asks for the originator with flags 1.
abbrev ask_for : Row → Decision Effect
ask_for r = ask (lend (table_with 0 (r ∷ []))) least_output 1000 (1 ∷ number_octets 6 originator.0)

-- Reports whether an element is a RREQ for one destination, with these flags and number 0.
abbrev is_request_with : ℕ → Element → Bool
is_request_with flags (rann p) = false
is_request_with flags (rreq f targets) =
    eqb (length targets) 1 && all (λ (q : Target). eqb q.flags flags && eqb q.number.0 0) targets
is_request_with flags (rrep f dependents) = false
is_request_with flags (rerr f destinations) = false

-- Reports whether the last of n frames is a RREQ for one destination, with these flags and number 0.
abbrev ends_with_request : ℕ → ℕ → Effect → Bool
ends_with_request n flags e =
    eqb (length e.frames) n && all (λ (f : Frame). is_request_with flags f.element) (drop (n - 1) e.frames)

abbrev pub further_cases : List Bool
further_cases =
    -- U1: own number 3,000,000,000, asked for with a 0 marked unknown: reply 3,000,000,001.
    accepted_with (replies_with 3000000001) (asked_at_3_billion (target_with 4 point 0 ∷ []))
    -- Asked for with a 0 that is not marked, which is newer than 3,000,000,000: reply 1.
    ∷ accepted_with (replies_with 1) (asked_at_3_billion (target_with 0 point 0 ∷ []))
    -- U2: 7 marked unknown: refused (10), for the own address, for all ones, and for the second of two destinations. A marked 0
    -- next to an unmarked 7 is accepted.
    ∷ refused_with 10 (asked_at_3_billion (target_with 4 point 7 ∷ []))
    ∷ refused_with 10 (asked_at_3_billion (target_with 7 all_ones 7 ∷ []))
    ∷ refused_with 10 (asked_at_3_billion (target_with 4 (other 0) 0 ∷ target_with 4 (other 1) 7 ∷ []))
    ∷ accepted_with (λ e. true) (asked_at_3_billion (target_with 4 (other 0) 0 ∷ target_with 0 (other 1) 7 ∷ []))
    -- U3: a row of number 3,000,000,000, asked for with a 0 marked unknown: intermediate reply 3,000,000,000.
    ∷ accepted_with (λ e. first_is_reply (other 0) 3000000000 e.frames) (asked_beside_3_billion 4)
    -- Asked for with a 0 that is not marked, which is newer than 3,000,000,000: no reply, and the RREQ is forwarded.
    ∷ accepted_with (ends_with_request 1 0) (asked_beside_3_billion 0)
    -- U4: a destination that is forwarded keeps 'number unknown': with DO set after a reply (RF), and without a reply.
    ∷ accepted_with (ends_with_request 2 7) (asked_beside_3_billion 6)
    ∷ accepted_with (ends_with_request 1 5) (asked_beside_3_billion 5)
    -- U5: an ask without a row, and with a row of unknown number: unknown. With a row of known number 0: known.
    ∷ accepted_with (ends_with_request 1 5) (ask_for free_row)
    ∷ accepted_with (ends_with_request 1 5) (ask_for unnumbered)
    ∷ accepted_with (ends_with_request 1 1) (ask_for (row 2 originator 0 40))
    -- U6: a root request: DO, RF and number unknown.
    ∷ accepted_with (ends_with_request 1 7) (root_request (lend (table_with 0 (free_row ∷ []))) least_output 0 1000)
    ∷ []
