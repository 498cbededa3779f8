-- Every frame that a call emits fits its octets, and its element has an allowed number of entries.
use Rattle.std.specs.Prelude.{Option, None, Some}
use Prim.Native.Nat.{ℕ, ◌-◌, ◌*◌, ◌^◌, ◌<◌, ◌≤◌}
use mathlib.Core.Path.{◌≡◌, refl, subst}
use mathlib.Core.Bool.{Bool}
use mathlib.Core.List.{List, [], ◌∷◌}
use Rattle.std.proofs.lemmas.Option.{none-some, same_Some}
use lib.Dec.{eqb}
use lib.ListN.{length, take, drop, length-append, length-take, length-drop}
use native.Mathlib.Omega.{arith}
use borrow.Author.Tests.{le-leb}
use Rattle.octets.specs.LittleEndian.{Octets}
use Rattle.octets.proofs.Laws.{FitFields}
use Rattle.counters.specs.declared.SequenceNumber.{SequenceNumber}
use Rattle.counters.specs.declared.HopCount.{HopCount}
use Rattle.counters.specs.declared.Metric.{Metric}
use Rattle.counters.specs.Numbers.{next_number}
use Rattle.layout.specs.declared.address.Address.{Address}
use Rattle.layout.specs.declared.row.Row.{Row}
use Rattle.layout.specs.Address.{same}
use Rattle.layout.specs.Row.{active, invalidated, raised}
use Rattle.layout.specs.Layout.{rows, row_at}
use Rattle.table.specs.Table.{own, row_for, active_next}
use Rattle.layout.proofs.HeadAndRows.{FitRow, row_fits}
use Rattle.table.proofs.Lookup.{row_fits_its_octets}
use Rattle.element.specs.declared.LostDestination.{LostDestination}
use Rattle.element.specs.declared.NumberedAddress.{NumberedAddress}
use Rattle.element.specs.declared.PathInfo.{PathInfo}
use Rattle.element.specs.declared.RreqFields.{RreqFields}
use Rattle.element.specs.declared.RrepFields.{RrepFields}
use Rattle.element.specs.declared.RerrFields.{RerrFields}
use Rattle.element.specs.declared.Target.{Target}
use Rattle.element.specs.Element.{Element, rann, rreq, rrep, rerr}
use Rattle.element.specs.Lists.{all_ones}
use Rattle.element.specs.Entries.{each, All}
use Rattle.element.proofs.ListParts.{all_each, FitsTarget, FitsNumbered, FitsLost}
use Rattle.element.proofs.ReadBack.{Fits}
use Rattle.element.specs.Flags.{reply_wanted, has_rf, with_do}
use Rattle.rules.specs.Exit.{Frame}
use Rattle.rules.specs.declared.Arrival.{Arrival}
use Rattle.rules.specs.Learn.{metric_here}
use Rattle.rules.specs.Destinations.{Answered, reply_fields, row_reply, reply, answered_number, answers_for, for_oneself, for_all_ones, for_another, answered, all_answered, kept_after_reply}
use Rattle.rules.specs.Onward.{onward, rann_onward, rreq_onward, rrep_onward}
use Rattle.rules.specs.Errors.{broken, broken_entry, broken_entries, own_error, error_at, errors_taken, errors_for}
use Rattle.rules.proofs.Branches.{cond_cases}
use Rattle.rules.proofs.Alls.{all_one, all_append, all_take, all_drop, all_flat_map}
use Rattle.rules.proofs.Tables.{Whole, own_fits}
use Rattle.rules.proofs.Learning.{PathFits}
use Rattle.rules.proofs.Falling.{next_fits}
use Rattle.rules.proofs.Emitting.{GoesTo, all, next, rann_emitted, rreq_emitted, rrep_emitted, replies_emitted, errors_emitted}

-- States that the receiver and the element of a frame fit their octets.
pub record FrameFits (f : Frame) : Type 0 where
  pub receiver : f.receiver.0 < 256 ^ 6
  pub element : Fits f.element

abbrev pub FramesFit : List Frame → Type 0
FramesFit frames = All FrameFits frames

-- A frame to all ones fits if its element fits, because all ones fits six octets.
pub to_all_fits : (e : Element) → Fits e → FrameFits (record { receiver = all_ones; element = e })
to_all_fits e fits = record { receiver = omega arith; element = fits }

-- ---- elements whose path fits

pub rann_fits : (p : PathInfo) → PathFits p → Fits (rann p)
unfolding FitFields
rann_fits p f =
    record {
      fields = (f.flags, (f.hops, (f.ttl, (f.subject, (f.number, (f.lifetime, (f.metric, tt)))))));
      entries = tt;
      count = refl;
    }

pub rreq_fits : (f : RreqFields) (targets : List Target) → f.request.0 < 256 ^ 4 → PathFits f.path → All FitsTarget targets
    → 1 ≤ length targets → length targets ≤ 20 → Fits (rreq f targets)
unfolding FitFields
rreq_fits f targets i p entries one few =
    record {
      fields = (p.flags, (p.hops, (p.ttl, (i, (p.subject, (p.number, (p.lifetime, (p.metric, tt))))))));
      entries = entries;
      count = rw (le-leb 1 (length targets) one, le-leb (length targets) 20 few);
    }

rrep_fits : (f : RrepFields) (dependents : List NumberedAddress) → PathFits f.path → FitsNumbered f.source → All FitsNumbered dependents
    → length dependents ≤ 22 → Fits (rrep f dependents)
unfolding FitFields
rrep_fits f dependents p source entries few =
    record {
      fields = (p.flags, (p.hops, (p.ttl, (p.subject, (p.number, (p.lifetime, (p.metric, (source.0, (source.1.0, tt)))))))));
      entries = entries;
      count = rw (le-leb 0 (length dependents) (omega arith), le-leb (length dependents) 22 few);
    }

pub rerr_fits : (g : RerrFields) (entries : List LostDestination) → g.flags < 256 ^ 1 → All FitsLost entries → 1 ≤ length entries → length entries ≤ 25
    → Fits (rerr g entries)
unfolding FitFields
rerr_fits g entries f fit one few =
    record { fields = (f, tt); entries = fit; count = rw (le-leb 1 (length entries) one, le-leb (length entries) 25 few) }

-- ---- forwarding

-- A receiver to which a point forwards an element fits six octets.
goes_to_fits : (t : List ℕ) → Octets t → (c : ℕ) (to : Address) → GoesTo t c to → to.0 < 256 ^ 6
unfolding active_next
goes_to_fits t o c _ all = omega arith
goes_to_fits t o c _ (next d to is) = by (row_for t d) refl is
  where
    by : (r : Option Row) → row_for t d ≡ r → active_next c r ≡ Some to → to.0 < 256 ^ 6
    by None found e = absurd (none-some to e)
    by (Some r) found e =
        cond_cases (λ (n : Option Address). n ≡ Some to → to.0 < 256 ^ 6) (active c r)
        (λ _ q. subst (λ (x : Address). x.0 < 256 ^ 6) (same_Some r.next to q) (row_fits_its_octets t d r found o).next)
        (λ _ q. absurd (none-some to q)) e

module _ (a : Arrival) (p : PathInfo) (f : PathFits p) (hops : p.hops.0 < 255) (metric : (metric_here a p).0 ≤ 2 ^ 32 - 2) where
  onward_fits : PathFits (onward a p)
  unfolding onward
  onward_fits =
      let t = f.ttl in
      record {
        flags = f.flags;
        hops = omega arith;
        ttl = omega arith;
        subject = f.subject;
        number = f.number;
        lifetime = f.lifetime;
        metric = omega arith;
      }

  pub rann_onward_fits : FramesFit (rann_onward a p)
  rann_onward_fits = (rann_emitted FrameFits a p (to_all_fits _ (rann_fits (onward a p) onward_fits))).each

module _ (a : Arrival) (f : RreqFields) (request : f.request.0 < 256 ^ 4) (fits : PathFits f.path) (hops : f.path.hops.0 < 255)
    (metric : (metric_here a f.path).0 ≤ 2 ^ 32 - 2) where
  pub rreq_onward_fits : (t : List ℕ) → Octets t → (kept : List Target) → All FitsTarget kept → length kept ≤ 20 → FramesFit (rreq_onward t a f kept)
  rreq_onward_fits t o kept fit few =
      (rreq_emitted FrameFits t a f kept
      (λ to goes one. record {
        receiver = goes_to_fits t o a.clock to goes;
        element = rreq_fits _ kept request (onward_fits a f.path fits hops metric) fit one few;
      })).each

module _ (a : Arrival) (f : RrepFields) (fits : PathFits f.path) (hops : f.path.hops.0 < 255)
    (metric : (metric_here a f.path).0 ≤ 2 ^ 32 - 2) where
  pub rrep_onward_fits : (t : List ℕ) → Octets t → (dependents : List NumberedAddress) → FitsNumbered f.source → All FitsNumbered dependents
      → length dependents ≤ 22 → FramesFit (rrep_onward t a f dependents)
  rrep_onward_fits t o dependents source fit few =
      (rrep_emitted FrameFits t a f dependents
      (λ to goes. record {
        receiver = goes_to_fits t o a.clock to goes;
        element = rrep_fits _ dependents (onward_fits a f.path fits hops metric) source fit few;
      })).each

-- ---- the replies

-- Below, t is the table as steps 1 and 2 left it.
module _ (t : List ℕ) (w : Whole t) (a : Arrival) (transmitter_fits : a.transmitter.0 < 256 ^ 6) (p : PathInfo) (f : PathFits p) where
  reply_fits : (d : Address) (n : SequenceNumber) (hops : HopCount) (metric : Metric) → d.0 < 256 ^ 6 → n.0 < 256 ^ 4 → hops.0 < 256 ^ 1
      → metric.0 < 256 ^ 4 → FrameFits (reply a p d n hops metric)
  unfolding reply FitFields All
  reply_fits d n hops metric d-fits n_fits hops-fit metric-fits =
      let path : PathFits (reply_fields p d n hops metric).path =
      record { flags = omega arith; hops = hops-fit; ttl = omega arith; subject = d-fits; number = n_fits; lifetime = f.lifetime; metric = metric-fits } in
      record { receiver = transmitter_fits; element = rrep_fits _ [] path (f.subject, (f.number, tt)) tt (omega arith) }

  row_reply_fits : (r : Row) → FitRow r → FrameFits (row_reply a p r)
  row_reply_fits r g =
      reply_fits r.destination r.number r.hops r.metric g.destination g.number g.hops g.metric

  pub replies_fit : (n : SequenceNumber) (targets : List Target) → FramesFit (all_answered t a p n targets).replies
  replies_fit n targets =
      (replies_emitted FrameFits t a p
      (λ k. reply_fits (own t) (next_number k) (record { 0 = 0 }) (record { 0 = 0 }) (own_fits t w) (next_fits k) (omega arith) (omega arith))
      (λ d r found known. row_reply_fits r (row_fits_its_octets t d r found w.octets)) n targets).each

-- ---- the own number and the destinations that are kept

pub record AnsweredFits (n : ℕ) (x : Answered) : Type 0 where
  pub number : x.number.0 < 256 ^ 4
  pub kept : All FitsTarget x.kept
  pub fewer : length x.kept ≤ n

with_do_fits : (q : Target) → FitsTarget q → FitsTarget (with_do q)
unfolding FitFields with_do
with_do_fits q f = let k = f.0 in (omega arith, f.1)

module _ (t : List ℕ) (a : Arrival) (p : PathInfo) where
  module _ (n : SequenceNumber) (n_fits : n.0 < 256 ^ 4) (q : Target) (q_fits : FitsTarget q) where
    -- The destination is kept unchanged, and the own number k fits.
    kept_fits : (k : SequenceNumber) (replies : List Frame) → k.0 < 256 ^ 4 → AnsweredFits 1 (record { number = k; replies = replies; kept = q ∷ [] })
    kept_fits k replies fits = record { number = fits; kept = all_one FitsTarget q q_fits; fewer = omega arith }

    kept_after_fits : All FitsTarget (kept_after_reply q) × (length (kept_after_reply q) ≤ 1)
    unfolding All
    kept_after_fits =
        cond_cases (λ (kept : List Target). All FitsTarget kept × (length kept ≤ 1)) (has_rf q)
        (λ _. (all_one FitsTarget (with_do q) (with_do_fits q q_fits), omega arith)) (λ _. (tt, omega arith))

    another_fits : (o : Option Row) → AnsweredFits 1 (for_another t a p n q o)
    unfolding for_another
    another_fits None = kept_fits n [] n_fits
    another_fits (Some r) =
        cond_cases (AnsweredFits 1) (answers_for a.clock q r)
        (λ _. record { number = n_fits; kept = kept_after_fits.0; fewer = kept_after_fits.1 }) (λ _. kept_fits n [] n_fits)

    answered_fits : AnsweredFits 1 (answered t a p n q)
    unfolding answered for_oneself answered_number for_all_ones All
    answered_fits =
        cond_cases (AnsweredFits 1) (same q.address (own t)) (λ _. record { number = next_fits _; kept = tt; fewer = omega arith })
        (λ _. cond_cases (AnsweredFits 1) (same q.address all_ones)
        (λ _. cond_cases (AnsweredFits 1) (reply_wanted p) (λ _. kept_fits _ _ (next_fits n)) (λ _. kept_fits n [] n_fits))
        (λ _. another_fits (row_for t q.address)))

  pub all_answered_fits : (n : SequenceNumber) → n.0 < 256 ^ 4 → (targets : List Target) → All FitsTarget targets
      → AnsweredFits (length targets) (all_answered t a p n targets)
  unfolding all_answered All
  all_answered_fits n n_fits [] fit = record { number = n_fits; kept = tt; fewer = omega arith }
  all_answered_fits n n_fits (q ∷ qs) fit =
      let this : Answered = answered t a p n q in
      let this_fits : AnsweredFits 1 this = answered_fits n n_fits q fit.0 in
      let rest : Answered = all_answered t a p this.number qs in
      let rest_fits : AnsweredFits (length qs) rest = all_answered_fits this.number this_fits.number qs fit.1 in
      record {
        number = rest_fits.number;
        kept = all_append FitsTarget this.kept rest.kept this_fits.kept rest_fits.kept;
        fewer = omega (arith, length-append this.kept rest.kept, this_fits.fewer, rest_fits.fewer);
      }

-- ---- the errors of a break

broken_number_fits : (r : Row) → FitRow r → (broken r).number.0 < 256 ^ 4
unfolding broken raised invalidated
broken_number_fits r f =
    cond_cases (λ (q : Row). q.number.0 < 256 ^ 4) (eqb r.known 1) (λ _. next_fits r.number) (λ _. f.number)

module _ (t : List ℕ) (o : Octets t) (test : Row → Bool) where
  entry_fits : (r : Row) → FitRow r → All FitsLost (broken_entry test r)
  unfolding broken_entry All FitFields
  entry_fits r f =
      cond_cases (All FitsLost) (test r) (λ _. ((f.destination, (broken_number_fits r f, tt)), tt)) (λ _. tt)

  pub entries_fit : All FitsLost (broken_entries test t)
  unfolding broken_entries
  entries_fit =
      all_flat_map FitsLost FitRow (broken_entry test) entry_fits (each (row_at t) 0 (rows t))
      (all_each FitRow (row_at t) (λ i. row_fits t i o) 0 (rows t))

error_at_fits : (entries : List LostDestination) → All FitsLost entries → (i : ℕ) → i < errors_taken (length entries) → FrameFits (error_at entries i)
unfolding error_at
error_at_fits entries fit i l =
    let part : List LostDestination = drop (25 * i) entries in
    let long : length part ≡ length entries - 25 * i = length-drop (25 * i) entries in
    to_all_fits _
    (rerr_fits own_error (take 25 part) (omega arith) (all_take FitsLost 25 part (all_drop FitsLost (25 * i) entries fit))
    (omega (arith, long, length-take 25 part)) (omega (arith, length-take 25 part)))

pub errors_fit : (entries : List LostDestination) → All FitsLost entries → FramesFit (errors_for entries)
errors_fit entries fit = (errors_emitted FrameFits entries (error_at_fits entries fit)).each
