-- Laws of receive, as the proofs of its functions need them: by its first checks, by what is read, and by type.
use Rattle.refusals.specs.declared.Refusal.{Refusal}
use Rattle.std.specs.Prelude.{Result, Err, ⊤, Ok}
use Prim.Native.Nat.{ℕ, ◌≤◌}
use mathlib.Core.Path.{◌≡◌, refl, sym, ap, ◌∙◌}
use mathlib.Core.Bool.{Bool, true, false, cond}
use mathlib.Core.List.{List}
use lib.ListN.{length}
use borrow.Author.Tests.{ltb-false}
use Rattle.octets.proofs.Tests.{clash}
use Rattle.element.specs.declared.PathInfo.{PathInfo}
use Rattle.element.specs.declared.RreqFields.{RreqFields}
use Rattle.element.specs.declared.RrepFields.{RrepFields}
use Rattle.element.specs.declared.RerrFields.{RerrFields}
use Rattle.reading.specs.declared.Fields.{Fields}
use Rattle.reading.specs.declared.Fields.TheVariants.{Announcement, Request, Reply, Error}
use Rattle.refusals.specs.declared.Refusal.TheVariants.{ElementLength, UnknownId, BadCount}
use Rattle.element.specs.Element.{Element, rann, rreq, rrep, rerr}
use Rattle.element.specs.Entries.{lost_in, numbered_in, targets_in}
use Rattle.element.specs.Octets.{wrong_length, other_id, misfit, read_element, list_part}
use Rattle.reading.specs.Reading.{fixed_fields, reading}
use Rattle.reading.proofs.Readings.{announcement_element, request_element, reply_element, error_element}
use Rattle.rules.specs.declared.Arrival.{Arrival}
use Rattle.rules.specs.Decision.{decide, Decision}
use Rattle.rules.specs.Exit.{lend, Exit, at_exit}
use Rattle.rules.specs.Receive.{arrival_checks, octet_checks, judging, reading_octets, receiving, receive}
use Rattle.rules.proofs.Rulings.{listed, passed_check}
use Rattle.calls.specs.Answers.{answer_to, exit_of}
use Rattle.calls.proofs.Checks.{answer_passed, part_refused, part_decided, refusal, table_sized, output_long}
use Rattle.layout.specs.Layout.{Sized}

-- ---- the first checks

module _ (t output : List ℕ) (a : Arrival) (r : Decision ⊤) (re : r ≡ answer_to (arrival_checks t (length output) a)) where
  pub arrival_refused : (s : List ℕ) (n : Refusal) → r ≡ Err n → exit_of (Err n) (lend t) output ≡ at_exit (lend t) output (receive (lend t) (length output) a s)
  unfolding receive
  arrival_refused s n e =
      refusal (lend t) output (receiving (lend t) (length output) a s) (Err n)
      (part_refused (arrival_checks t (length output) a) (reading_octets (lend t) a s).checks n (sym e ∙ re)) n refl

  module _ (done : ⊤) (ok : r ≡ Ok done) where
    pub arrival_accepted : (s : List ℕ) (x : Exit) → x ≡ at_exit (lend t) output (decide (reading_octets (lend t) a s)) → x ≡ at_exit (lend t) output (receive (lend t) (length output) a s)
    unfolding receive
    arrival_accepted s x xe =
        xe ∙ ap (at_exit (lend t) output) (part_decided (reading_octets (lend t) a s).otherwise (arrival_checks t (length output) a) (reading_octets (lend t) a s).checks done (sym ok ∙ re))

    pub arrival_table_sized : Sized t
    unfolding listed
    arrival_table_sized = table_sized t output _ r re done ok

    pub arrival_output_long : 1560 ≤ length output
    unfolding listed
    arrival_output_long = output_long t output _ r re done ok

    pub arrival_clock : a.clock ≤ 281474976710655
    unfolding listed
    arrival_clock =
        ltb-false 281474976710655 a.clock
        (passed_check 3 (arrival_checks t (length output) a) (answer_passed (arrival_checks t (length output) a) done (sym ok ∙ re)))

-- ---- what is read

module _ (t : List ℕ) (a : Arrival) (s : List ℕ) (r : Result Fields Refusal) (re : r ≡ reading s) where
  unread : (n : Refusal) → r ≡ Err n → Err n ≡ decide (reading_octets (lend t) a s)
  unfolding reading reading_octets octet_checks
  unread n e = by (wrong_length s) (other_id s) (misfit s) (sym e ∙ re)
    where
      by : (x y z : Bool) → Err n ≡ cond x (Err ElementLength) (cond y (Err UnknownId) (cond z (Err BadCount) (Ok (fixed_fields (read_element s)))))
          → Err n ≡ cond x (Err ElementLength) (cond y (Err UnknownId) (cond z (Err BadCount) (decide (judging (lend t) a (read_element s)))))
      by true y z h = cc
      by false true z h = cc
      by false false true h = cc
      by false false false h = clash cc

  pub read_refused : (output : List ℕ) (n : Refusal) → r ≡ Err n → exit_of (Err n) (lend t) output ≡ at_exit (lend t) output (decide (reading_octets (lend t) a s))
  unfolding at_exit
  read_refused output n e = ap (at_exit (lend t) output) (unread n e)

  read_so : (q : Fields) → r ≡ Ok q → decide (judging (lend t) a (read_element s)) ≡ decide (reading_octets (lend t) a s)
  unfolding reading reading_octets octet_checks
  read_so q e = by (wrong_length s) (other_id s) (misfit s) (sym e ∙ re)
    where
      by : (x y z : Bool) → Ok q ≡ cond x (Err ElementLength) (cond y (Err UnknownId) (cond z (Err BadCount) (Ok (fixed_fields (read_element s)))))
          → decide (judging (lend t) a (read_element s)) ≡ cond x (Err ElementLength) (cond y (Err UnknownId) (cond z (Err BadCount) (decide (judging (lend t) a (read_element s)))))
      by true y z h = clash cc
      by false true z h = clash cc
      by false false true h = clash cc
      by false false false h = refl

  module _ (output : List ℕ) (x : Exit) where
    read_as : (q : Fields) → r ≡ Ok q → (e : Element) → read_element s ≡ e → x ≡ at_exit (lend t) output (decide (judging (lend t) a e)) → x ≡ at_exit (lend t) output (decide (reading_octets (lend t) a s))
    read_as q rq e ee xe =
        xe ∙ ap (λ (y : Element). at_exit (lend t) output (decide (judging (lend t) a y))) (sym ee) ∙ ap (at_exit (lend t) output) (read_so q rq)

    pub rann_read : (p : PathInfo) → r ≡ Ok (Announcement p) → x ≡ at_exit (lend t) output (decide (judging (lend t) a (rann p))) → x ≡ at_exit (lend t) output (decide (reading_octets (lend t) a s))
    rann_read p e = read_as (Announcement p) e (rann p) (announcement_element s r re p e)

    module _ (part : List ℕ) (pe : part ≡ list_part s) where
      pub rreq_read : (f : RreqFields) → r ≡ Ok (Request f) → x ≡ at_exit (lend t) output (decide (judging (lend t) a (rreq f (targets_in part)))) → x ≡ at_exit (lend t) output (decide (reading_octets (lend t) a s))
      rreq_read f e = read_as (Request f) e (rreq f (targets_in part)) (request_element s r re f e part pe)

      pub rrep_read : (f : RrepFields) → r ≡ Ok (Reply f) → x ≡ at_exit (lend t) output (decide (judging (lend t) a (rrep f (numbered_in part)))) → x ≡ at_exit (lend t) output (decide (reading_octets (lend t) a s))
      rrep_read f e = read_as (Reply f) e (rrep f (numbered_in part)) (reply_element s r re f e part pe)

      pub rerr_read : (f : RerrFields) → r ≡ Ok (Error f) → x ≡ at_exit (lend t) output (decide (judging (lend t) a (rerr f (lost_in part)))) → x ≡ at_exit (lend t) output (decide (reading_octets (lend t) a s))
      rerr_read f e = read_as (Error f) e (rerr f (lost_in part)) (error_element s r re f e part pe)
