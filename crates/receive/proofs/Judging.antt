-- Laws of an element that was read: the parts of its checks together, and what follows from its answer.
use Rattle.refusals.specs.declared.Refusal.{Refusal}
use Rattle.std.specs.Prelude.{Some, ⊤, Ok, Err}
use Prim.Native.Nat.{ℕ, ◌/◌, ◌<◌, ◌≤◌}
use mathlib.Core.Path.{◌≡◌, refl, sym, ap, ◌∙◌}
use mathlib.Core.Bool.{Bool, true, false, ◌&&◌, ◌||◌}
use mathlib.Core.List.{List, [], ◌++◌}
use lib.Dec.{eqb, ltb}
use lib.ListN.{length}
use native.Mathlib.Omega.{arith}
use borrow.Author.Tests.{ltb-false, eqb-false}
use Rattle.rules.specs.Learn.{Extends, max_metric, metric_here, max_hops}
use Rattle.layout.specs.declared.address.Address.{Address}
use Rattle.element.specs.declared.PathInfo.{PathInfo}
use Rattle.element.specs.declared.RreqFields.{RreqFields}
use Rattle.element.specs.declared.RrepFields.{RrepFields}
use Rattle.element.specs.declared.RerrFields.{RerrFields}
use Rattle.element.specs.declared.list.ListKind.TheVariants.{Targets, LostDestinations}
use Rattle.element.specs.Element.{Element, rann, rreq, rrep, rerr}
use Rattle.element.specs.Entries.{lost_in, numbered_in, targets_in}
use Rattle.element.specs.Lists.{addresses_in, all_ones, any_forbidden, contains, has_duplicate, ones_beside_others}
use Rattle.element.proofs.Scans.{addresses_many, target_addresses_lem, lost_addresses}
use Rattle.rules.specs.declared.Arrival.{Arrival}
use Rattle.rules.specs.Decision.{Check, decide, Decision}
use Rattle.element.specs.Flags.{unicast}
use Rattle.rules.specs.Lists.{any, is_some_and}
use Rattle.rules.specs.Exit.{lend, at_exit}
use Rattle.rules.specs.Receive.{path_of, target_addresses, has_bad_address, has_bad_list, is_mismarked, several_or_all, is_low_ttl_reply, field_checks, matches_nothing, judging}
use Rattle.rules.proofs.Rulings.{listed, Passed, passed_check}
use Rattle.calls.specs.Answers.{answer_to, exit_of}
use Rattle.calls.proofs.Checks.{answer_passed, refusal}
use Rattle.onward.specs.Sent.{unicast_to_several}
use Rattle.receive.specs.declared.faults.Faults.{Faults}
use Rattle.learn.specs.Learnt.{learnt_if}
use Rattle.receive.specs.Checks.{faults_of, path_checks, path_state_checks}
use Rattle.receive.proofs.Learnt.{nothing_learnt}

-- ---- the parts together are the checks of an element

-- An element with a path has the checks of its fields, and then those of the state.
module _ (t : List ℕ) (a : Arrival) (p : PathInfo) (x : Faults) (r : Decision ⊤) (re : r ≡ answer_to (path_checks t a p x)) where
  -- All checks of the path apply, and 26 is skipped.
  together : (e : Element) → path_of e ≡ Some p → matches_nothing t a e ≡ false → x ≡ faults_of e → r ≡ answer_to (judging (lend t) a e).checks
  unfolding judging faults_of
  together e pe unmatched xe =
      re ∙ ap (λ (y : Faults). answer_to (field_checks y.address y.list y.ttl a (Some p) ++ path_state_checks t a p)) xe
      ∙ rw (pe, unmatched)

  pub judged_rann : x ≡ faults_of (rann p) → r ≡ answer_to (judging (lend t) a (rann p)).checks
  unfolding matches_nothing
  judged_rann = together (rann p) refl refl

module _ (t : List ℕ) (a : Arrival) (x : Faults) (r : Decision ⊤) where
  pub judged_rreq : (f : RreqFields) (part : List ℕ) → r ≡ answer_to (path_checks t a f.path x) → x ≡ faults_of (rreq f (targets_in part))
      → r ≡ answer_to (judging (lend t) a (rreq f (targets_in part))).checks
  unfolding matches_nothing
  judged_rreq f part re = together t a f.path x r re (rreq f (targets_in part)) refl refl

  -- The dependents of a RREP play no part in its faults.
  pub judged_rrep : (f : RrepFields) (part : List ℕ) → r ≡ answer_to (path_checks t a f.path x) → x ≡ faults_of (rrep f [])
      → r ≡ answer_to (judging (lend t) a (rrep f (numbered_in part))).checks
  unfolding matches_nothing faults_of has_bad_address has_bad_list is_low_ttl_reply
  judged_rrep f part re xe = together t a f.path x r re (rrep f (numbered_in part)) refl refl xe

-- Once its fields are checked, a path can be one link longer.
module _ (x : Faults) (a : Arrival) (p : PathInfo) (b : Decision ⊤)
    (be : b ≡ answer_to (field_checks x.address x.list x.ttl a (Some p))) (done : ⊤) (ok : b ≡ Ok done) where
  abbrev of_fields : List Check
  of_fields = field_checks x.address x.list x.ttl a (Some p)

  good_fields : Passed of_fields
  good_fields = answer_passed of_fields done (sym ok ∙ be)

  pub fields_extend : p.hops.0 < 256 → Extends a p
  unfolding listed
  fields_extend l =
      let other = eqb-false p.hops.0 max_hops (passed_check 12 of_fields good_fields) in
      record { metric = ltb-false max_metric (metric_here a p).0 (passed_check 13 of_fields good_fields); hops = omega (arith, l, other) }

-- The tests of the list of a RERR are those of its list part.
module _ (f : RerrFields) (part : List ℕ) (b v : Bool) where
  pub error_address : b ≡ any_forbidden LostDestinations (addresses_in LostDestinations part) → b ≡ v → has_bad_address (rerr f (lost_in part)) ≡ v
  unfolding has_bad_address
  error_address be bv = rw (lost_addresses part) (sym be ∙ bv)

  pub error_list : b ≡ has_duplicate (addresses_in LostDestinations part) → b ≡ v → has_bad_list (rerr f (lost_in part)) ≡ v
  unfolding has_bad_list
  error_list be bv = rw (lost_addresses part) (sym be ∙ bv)

-- ---- what follows from the answer

none_applied : (t : List ℕ) (a : Arrival) (e : Element) (r : Decision ⊤) → r ≡ answer_to (judging (lend t) a e).checks → (done : ⊤) → r ≡ Ok done → Passed (judging (lend t) a e).checks
none_applied t a e r re done ok = answer_passed (judging (lend t) a e).checks done (sym ok ∙ re)

-- The element has the path p.
module _ (t : List ℕ) (a : Arrival) (e : Element) (p : PathInfo) (r : Decision ⊤) (re : r ≡ answer_to (judging (lend t) a e).checks) where
  -- A refusal learns nothing.
  pub path_refused : (u : List ℕ) → u ≡ learnt_if r a p t → (output : List ℕ) (n : Refusal) → r ≡ Err n
      → exit_of (Err n) (lend u) output ≡ at_exit (lend t) output (decide (judging (lend t) a e))
  path_refused u ue output n q =
      ap (λ (v : List ℕ). exit_of (Err n) (lend v) output) (nothing_learnt a p t u r ue n q)
      ∙ refusal (lend t) output (judging (lend t) a e) r re n q

  module _ (done : ⊤) (ok : r ≡ Ok done) where
    path_passed : Passed (judging (lend t) a e).checks
    path_passed = none_applied t a e r re done ok

    module _ (pe : path_of e ≡ Some p) where
      -- A test that does not apply to the element does not hold for its path.
      of_path : (test : PathInfo → Bool) → is_some_and test (path_of e) ≡ false → test p ≡ false
      of_path test passes = ap (is_some_and test) (sym pe) ∙ passes

      pub path_extends : p.hops.0 < 256 → Extends a p
      unfolding listed
      path_extends l =
          let other = eqb-false p.hops.0 max_hops (of_path (λ q. eqb q.hops.0 max_hops) (passed_check 12 (judging (lend t) a e).checks path_passed)) in
          record {
            metric = ltb-false max_metric (metric_here a p).0
                (of_path (λ q. ltb max_metric (metric_here a q).0) (passed_check 13 (judging (lend t) a e).checks path_passed));
            hops = omega (arith, l, other);
          }

-- An accepted RREP has TTL left, and an accepted unicast RREQ has one destination.
module _ (t : List ℕ) (a : Arrival) (r : Decision ⊤) (done : ⊤) (ok : r ≡ Ok done) where
  pub ttl_left : (f : RrepFields) (part : List ℕ) → r ≡ answer_to (judging (lend t) a (rrep f (numbered_in part))).checks → 1 ≤ f.path.ttl
  unfolding listed is_low_ttl_reply
  ttl_left f part re =
      let e : Element = rrep f (numbered_in part) in
      let left = ltb-false f.path.ttl 2 (passed_check 14 (judging (lend t) a e).checks (path_passed t a e f.path r re done ok)) in
      omega (arith, left)

  pub one_destination : (f : RreqFields) (part : List ℕ) → r ≡ answer_to (judging (lend t) a (rreq f (targets_in part))).checks → unicast_to_several f.path part ≡ false
  unfolding listed has_bad_list several_or_all unicast_to_several
  one_destination f part re =
      let addresses : List Address = target_addresses (targets_in part) in
      let good = passed_check 10 (judging (lend t) a (rreq f (targets_in part))).checks (path_passed t a (rreq f (targets_in part)) f.path r re done ok) in
      let many : length addresses ≡ length part / 11 =
      ap length (target_addresses_lem part) ∙ addresses_many Targets part in
      ap (λ (n : ℕ). unicast f.path && ltb 1 n) (sym many)
      ∙ by (unicast f.path) (ltb 1 (length addresses)) (contains addresses all_ones)
      (has_duplicate addresses || ones_beside_others addresses || contains addresses f.path.subject) (any is_mismarked (targets_in part)) good
    where
      by : (u m o b x : Bool) → (b || (u && (m || o)) || x) ≡ false → (u && m) ≡ false
      by false m o b x e = refl
      by true false o b x e = refl
      by true true o true x e = e
      by true true o false x e = e
