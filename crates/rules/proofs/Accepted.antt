-- What holds for an accepted element, because it passed all checks.
use Rattle.std.specs.Prelude.{Some}
use Prim.Native.Nat.{ℕ, ◌-◌, ◌^◌, ◌<◌, ◌≤◌}
use mathlib.Core.Path.{◌≡◌, sym, ap, subst, ◌∙◌}
use mathlib.Core.Bool.{Bool, true, false, not}
use mathlib.Core.List.{List}
use Rattle.std.proofs.lemmas.Option.{none-some, same_Some}
use lib.Dec.{eqb, ltb}
use native.Mathlib.Omega.{arith}
use borrow.Author.Tests.{ltb-false, eqb-false, not-false}
use Rattle.octets.proofs.Tests.{first_holds}
use Rattle.octets.specs.LittleEndian.{Octets}
use Rattle.octets.proofs.Laws.{FitFields}
use Rattle.layout.specs.declared.address.Address.{Address}
use Rattle.layout.specs.Address.{individual, same}
use Rattle.layout.specs.Row.{is_other}
use Rattle.table.specs.Table.{own, free_rows}
use Rattle.element.specs.declared.PathInfo.{PathInfo}
use Rattle.element.specs.declared.list.ListKind.TheVariants.{Targets}
use Rattle.element.specs.Element.{Element, rann, rreq, rrep, rerr}
use Rattle.element.specs.Octets.{read_element}
use Rattle.element.specs.Lists.{any_forbidden}
use Rattle.element.proofs.ReadBack.{Fits, read_fits}
use Rattle.rules.specs.Decision.{Check}
use Rattle.rules.specs.Lists.{is_some_and}
use Rattle.rules.specs.declared.Arrival.{Arrival}
use Rattle.rules.specs.Exit.{Lent}
use Rattle.rules.specs.Learn.{metric_here}
use Rattle.rules.specs.Receive.{path_of, target_addresses, has_bad_address, is_stale, matches_nothing, rows_needed, receiving}
use Rattle.rules.proofs.Rulings.{listed, Passed, passed_check}
use Rattle.rules.proofs.Tables.{Whole, whole}
use Rattle.rules.proofs.Learning.{PathFits, Heard}

-- What the checks guarantee for an accepted element.
pub record Accepted (t : List ℕ) (a : Arrival) (e : Element) : Type 0 where
  pub whole : Whole t
  pub clock : a.clock ≤ 2 ^ 48 - 1
  pub fits : Fits e
  pub heard : (p : PathInfo) → path_of e ≡ Some p → Heard t a p
  pub matched : matches_nothing t a e ≡ false

pub path_fits : (e : Element) → Fits e → (p : PathInfo) → path_of e ≡ Some p → PathFits p
unfolding FitFields
path_fits (rann q) f p is = subst PathFits (same_Some q p is) (search f.fields)
path_fits (rreq q targets) f p is = subst PathFits (same_Some q.path p is) (search f.fields)
path_fits (rrep q dependents) f p is = subst PathFits (same_Some q.path p is) (search f.fields)
path_fits (rerr g destinations) f p is = absurd (none-some p is)

subject_individual : (e : Element) → has_bad_address e ≡ false → (p : PathInfo) → path_of e ≡ Some p → individual p.subject ≡ true
unfolding has_bad_address
subject_individual (rann q) ok p is = subst (λ (x : PathInfo). individual x.subject ≡ true) (same_Some q p is) (not-false _ ok)
subject_individual (rreq q targets) ok p is =
    subst (λ (x : PathInfo). individual x.subject ≡ true) (same_Some q.path p is)
    (first_holds (individual q.path.subject) (any_forbidden Targets (target_addresses targets)) ok)
subject_individual (rrep q dependents) ok p is =
    subst (λ (x : PathInfo). individual x.subject ≡ true) (same_Some q.path p is)
    (first_holds (individual q.path.subject) (not (individual q.source.address)) ok)
subject_individual (rerr g destinations) ok p is = absurd (none-some p is)

other_of : (a x : Address) → individual x ≡ true → same x a ≡ false → is_other a x ≡ true
unfolding is_other
other_of a x i n = rw (i, n)

-- If a check of the path does not apply, its test fails on the path of the element.
path_test : (test : PathInfo → Bool) (e : Element) → is_some_and test (path_of e) ≡ false → (p : PathInfo) → path_of e ≡ Some p → test p ≡ false
path_test test e h p is = ap (is_some_and test) (sym is) ∙ h

module _ (l : Lent) (room : ℕ) (a : Arrival) (s : List ℕ) (octets : Octets l.table) (transmitter_fits : a.transmitter.0 < 256 ^ 6)
    (s_octets : Octets s) (h : Passed (receiving l room a s).checks) where
  abbrev t : List ℕ
  t = l.table

  abbrev checks : List Check
  checks = (receiving l room a s).checks

  t_whole : Whole t
  unfolding listed
  t_whole = whole t octets (passed_check 1 checks h) (passed_check 21 checks h)

  element_fits : Fits (read_element s)
  unfolding listed
  element_fits = read_fits s s_octets (passed_check 6 checks h) (passed_check 7 checks h) (passed_check 8 checks h)

  clock_fits : a.clock ≤ 2 ^ 48 - 1
  unfolding listed
  clock_fits = ltb-false (2 ^ 48 - 1) a.clock (passed_check 3 checks h)

  path_heard : (p : PathInfo) → path_of (read_element s) ≡ Some p → Heard t a p
  unfolding listed
  path_heard p is =
      let fits : PathFits p = path_fits (read_element s) element_fits p is in
      let own_subject = path_test (λ (q : PathInfo). same q.subject (own t)) (read_element s) (passed_check 24 checks h) p is in
      let hops = path_test (λ (q : PathInfo). eqb q.hops.0 255) (read_element s) (passed_check 12 checks h) p is in
      let metric = path_test (λ (q : PathInfo). ltb (2 ^ 32 - 2) (metric_here a q).0) (read_element s) (passed_check 13 checks h) p is in
      let room = path_test (λ (q : PathInfo). ltb (free_rows t) (rows_needed t a q)) (read_element s) (passed_check 27 checks h) p is in
      record {
        whole = t_whole;
        fits = fits;
        transmitter_fits = transmitter_fits;
        clock = clock_fits;
        link = omega (arith, eqb-false a.link.0 0 (passed_check 5 checks h));
        transmitter = other_of (own t) a.transmitter (not-false _ (passed_check 4 checks h)) (passed_check 23 checks h);
        subject = other_of (own t) p.subject (subject_individual (read_element s) (passed_check 9 checks h) p is) own_subject;
        hops = omega (arith, fits.hops, eqb-false p.hops.0 255 hops);
        metric = ltb-false (2 ^ 32 - 2) (metric_here a p).0 metric;
        fresh = path_test (is_stale t a) (read_element s) (passed_check 25 checks h) p is;
        room = ltb-false (free_rows t) (rows_needed t a p) room;
      }

  pub accepted_element : Accepted t a (read_element s)
  unfolding listed
  accepted_element =
      record { whole = t_whole; clock = clock_fits; fits = element_fits; heard = path_heard; matched = passed_check 26 checks h }
