-- Laws of what callers know from the result of the reader: the type and the size of the octets, and the entries in their list
-- part.
use Prim.Native.Nat.{ℕ, ◌+◌, ◌*◌, ◌/◌}
use mathlib.Core.Path.{◌≡◌, refl, sym, ap, ap₂, subst, ◌∙◌}
use mathlib.Core.Bool.{Bool, true, false}
use mathlib.Core.List.{List, []}
use lib.ListN.{length, drop, length-drop}
use native.Mathlib.Omega.{arith}
use Rattle.std.specs.Prelude.{Result, Ok}
use Rattle.std.proofs.lemmas.List.{nil_from_length}
use Rattle.octets.proofs.Tests.{clash}
use Rattle.refusals.specs.declared.Refusal.{Refusal}
use Rattle.element.specs.declared.Kind.{Kind}
use Rattle.element.specs.declared.Kind.TheVariants.{Rann, Rreq, Rrep, Rerr}
use Rattle.element.specs.declared.PathInfo.{PathInfo}
use Rattle.element.specs.declared.RreqFields.{RreqFields}
use Rattle.element.specs.declared.RrepFields.{RrepFields}
use Rattle.element.specs.declared.RerrFields.{RerrFields}
use Rattle.reading.specs.declared.Fields.{Fields}
use Rattle.reading.specs.declared.Fields.TheVariants.{Announcement, Request, Reply, Error}
use Rattle.element.specs.Element.{Element, rann, rreq, rrep, rerr}
use Rattle.element.specs.Layout.{length_with, count_ok, entry_size, PartOf}
use Rattle.element.specs.Entries.{lost_in, numbered_in, targets_in}
use Rattle.element.specs.Octets.{kind_in, count_as, wrong_length, other_id, misfit, fields_as, list_as, element_as, read_as, read_element, list_part, write_element}
use Rattle.reading.specs.Reading.{fixed_fields, reading}
use Rattle.element.proofs.Lengths.{least_length, count_range}
use Rattle.element.proofs.Passing.{Passed, passed}
use Rattle.element.proofs.ReadBack.{Fits, passes_6, passes_7, passes_8, read_back}

-- ---- a result that is no refusal

-- Returns the type of the element that was read.
abbrev kind_read : Fields → Kind
kind_read (Announcement p) = Rann
kind_read (Request f) = Rreq
kind_read (Reply f) = Rrep
kind_read (Error f) = Rerr

record Accepted (s : List ℕ) (k : Kind) (q : Fields) : Type 0 where
  kind : kind_in s ≡ k
  passes : Passed s k
  fields : q ≡ fixed_fields (read_as k s)

kind_fixed : (k : Kind) (s : List ℕ) → kind_read (fixed_fields (read_as k s)) ≡ k
unfolding read_as
kind_fixed Rann s = refl
kind_fixed Rreq s = refl
kind_fixed Rrep s = refl
kind_fixed Rerr s = refl

accepted : (s : List ℕ) (q : Fields) → Ok q ≡ reading s → Accepted s (kind_read q) q
unfolding reading read_element
accepted s q e = by (wrong_length s) (other_id s) (misfit s) refl refl refl
  where
    by : (a b c : Bool) → wrong_length s ≡ a → other_id s ≡ b → misfit s ≡ c → Accepted s (kind_read q) q
    by true b c ae be ce = clash cc
    by false true c ae be ce = clash cc
    by false false true ae be ce = clash cc
    by false false false ae be ce =
        let fields_are : q ≡ fixed_fields (read_as (kind_in s) s) = cc in
        subst (λ (k : Kind). Accepted s k q) (sym (ap kind_read fields_are ∙ kind_fixed (kind_in s) s))
        (record { kind = refl; passes = passed s ae be ce; fields = fields_are })

-- ---- what callers use: r is the result for the octets s, and part is their list part

by_entries : (k : Kind) (n long : ℕ) → count_ok k n ≡ true → long + length_with k 0 ≡ length_with k n → (long ≡ entry_size k * n) × (n ≡ long / entry_size k)
by_entries Rann n long c e = let r = count_range Rann n c in (omega arith, omega arith)
by_entries Rreq n long c e = (omega arith, omega arith)
by_entries Rrep n long c e = (omega arith, omega arith)
by_entries Rerr n long c e = (omega arith, omega arith)

of_kind : (k : Kind) (n : ℕ) (part : List ℕ) → count_ok k n ≡ true → length part ≡ entry_size k * n → PartOf k part
of_kind Rann n part c e = let r = count_range Rann n c in record { whole = omega arith; some = omega arith; short = omega arith }
of_kind Rreq n part c e = let r = count_range Rreq n c in record { whole = omega arith; some = omega arith; short = omega arith }
of_kind Rrep n part c e = let r = count_range Rrep n c in record { whole = omega arith; some = omega arith; short = omega arith }
of_kind Rerr n part c e = let r = count_range Rerr n c in record { whole = omega arith; some = omega arith; short = omega arith }

module _ (s : List ℕ) (r : Result Fields Refusal) (re : r ≡ reading s) (q : Fields) (e : r ≡ Ok q) where
  read_so : Accepted s (kind_read q) q
  read_so = accepted s q (sym e ∙ re)

  module _ (part : List ℕ) (pe : part ≡ list_part s) where
    part_is : part ≡ drop (2 + length_with (kind_read q) 0) s
    unfolding list_part
    part_is = pe ∙ rw read_so.kind refl

    entries : (length part ≡ entry_size (kind_read q) * count_as (kind_read q) s) × (count_as (kind_read q) s ≡ length part / entry_size (kind_read q))
    entries =
        by_entries (kind_read q) (count_as (kind_read q) s) (length part) read_so.passes.count
        (rw (part_is, length-drop) (omega (arith, read_so.passes.size, least_length (kind_read q) (count_as (kind_read q) s))))

    pub part_of : PartOf (kind_read q) part
    part_of = of_kind (kind_read q) (count_as (kind_read q) s) part read_so.passes.count entries.0

    -- The element that was read, in terms of its list part.
    element_is : read_element s ≡ element_as (kind_read q) (fields_as (kind_read q) s) (length part / entry_size (kind_read q)) part
    unfolding read_element read_as
    element_is =
        ap (λ (j : Kind). element_as j (fields_as j s) (count_as j s) (list_as j s)) read_so.kind
        ∙ ap₂ (element_as (kind_read q) (fields_as (kind_read q) s)) entries.1 (sym part_is)

-- The laws for each case of the result. In each case `cc` shows that the fields in the result are the fields of the element.
module _ (s : List ℕ) (r : Result Fields Refusal) (re : r ≡ reading s) where
  module _ (p : PathInfo) (e : r ≡ Ok (Announcement p)) where
    -- The list part of a RANN is empty.
    pub announcement_list : list_part s ≡ []
    announcement_list = nil_from_length (list_part s) (omega (arith, entries s r re (Announcement p) e (list_part s) refl))

    pub announcement_element : read_element s ≡ rann p
    unfolding read_as
    announcement_element =
        let same = (read_so s r re (Announcement p) e).fields in
        element_is s r re (Announcement p) e (list_part s) refl ∙ ap rann (cc)

  module _ (f : RreqFields) (e : r ≡ Ok (Request f)) where
    module _ (part : List ℕ) (pe : part ≡ list_part s) where
      pub request_part : PartOf Rreq part
      request_part = part_of s r re (Request f) e part pe

      pub request_element : read_element s ≡ rreq f (targets_in part)
      unfolding read_as
      request_element =
          let same = (read_so s r re (Request f) e).fields in
          element_is s r re (Request f) e part pe ∙ ap (λ (g : RreqFields). rreq g (targets_in part)) (cc)

  module _ (f : RrepFields) (e : r ≡ Ok (Reply f)) where
    module _ (part : List ℕ) (pe : part ≡ list_part s) where
      pub reply_part : PartOf Rrep part
      reply_part = part_of s r re (Reply f) e part pe

      pub reply_element : read_element s ≡ rrep f (numbered_in part)
      unfolding read_as
      reply_element =
          let same = (read_so s r re (Reply f) e).fields in
          element_is s r re (Reply f) e part pe ∙ ap (λ (g : RrepFields). rrep g (numbered_in part)) (cc)

  module _ (f : RerrFields) (e : r ≡ Ok (Error f)) where
    module _ (part : List ℕ) (pe : part ≡ list_part s) where
      pub error_part : PartOf Rerr part
      error_part = part_of s r re (Error f) e part pe

      pub error_element : read_element s ≡ rerr f (lost_in part)
      unfolding read_as
      error_element =
          let same = (read_so s r re (Error f) e).fields in
          element_is s r re (Error f) e part pe ∙ ap (λ (g : RerrFields). rerr g (lost_in part)) (cc)

-- ---- a written element

-- From a written element the reader returns the fixed fields that were written.
pub reads : (e : Element) → Fits e → reading (write_element e) ≡ Ok (fixed_fields e)
unfolding reading
reads e f = rw (passes_6 e, passes_7 e, passes_8 e f.count, read_back e f) refl
