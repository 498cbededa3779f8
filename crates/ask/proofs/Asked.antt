-- Laws of an ask, as the proofs of its functions need them: the search through its items, its destinations as they are
-- written, and the exit.
use Rattle.refusals.specs.declared.Refusal.{Refusal}
use Rattle.std.specs.Prelude.{Ok, ⊤, Err, Option, Some, None}
use Prim.Native.Nat.{ℕ, ◌+◌, ◌-◌, ◌*◌, ◌/◌, ◌%◌, ◌<◌, ◌≤◌}
use mathlib.Core.Path.{◌≡◌, refl, sym, ap, ◌∙◌}
use mathlib.Core.Bool.{Bool, true, ◌&&◌, and-eq-true_iff}
use mathlib.Core.List.{List, [], ◌∷◌, ◌++◌, flat_map, map}
use lib.Dec.{eqb, leb}
use lib.ListN.{length, length-map}
use native.Mathlib.Nat.{sub-zero}
use borrow.Author.Tests.{lt-ltb, le-ltb, leb-true, eq-eqb, ne_eqb, not-false}
use Rattle.octets.specs.LittleEndian.{overwrite}
use Rattle.layout.specs.declared.address.Address.{Address}
use Rattle.layout.specs.declared.row.Head.{Head}
use Rattle.layout.specs.declared.row.Row.{Row}
use Rattle.layout.specs.Layout.{head_at, put_head, row_at, Sized}
use Rattle.table.specs.Table.{own, find_row}
use Rattle.table.proofs.Cases.{row_at_lem, row_none}
use Rattle.element.specs.declared.Item.{Item}
use Rattle.element.specs.declared.Kind.TheVariants.{Rreq}
use Rattle.element.specs.declared.Target.{Target}
use Rattle.element.specs.Element.{rreq, rreq_numbers}
use Rattle.element.specs.Entries.{each, item_at, items_in, target_octets}
use Rattle.element.specs.Lists.{all_ones, contains}
use Rattle.element.specs.Octets.{frame_start, write_frame}
use Rattle.element.proofs.Scans.{each_length}
use Rattle.writing.proofs.Written.{entries_more, target_length}
use Rattle.rules.specs.Decision.{Check, Decision}
use Rattle.rules.specs.Lists.{any}
use Rattle.rules.specs.Exit.{lend, Exit, at_exit}
use Rattle.rules.specs.Originate.{numbered_head, own_request, requested, items_fit, has_high_flags, with_known, without_known, asked_by, asked_for, item_checks, asking, ask}
use Rattle.rules.proofs.AnyOf.{any_found, any_more}
use Rattle.rules.proofs.Rulings.{listed, Passed, passed_check}
use Rattle.calls.specs.declared.Emitted.{Emitted}
use Rattle.calls.specs.Answers.{answer_to, exit_of}
use Rattle.calls.proofs.Checks.{table_sized, output_long, answer_passed, passed_first, refusal, acceptance}
use Rattle.originate.proofs.Originated.{request_finished, requested_exit}

-- ---- the flags of its items; g says whether some flags are above 3

module _ (s : List ℕ) (n i : ℕ) (g : Bool) (l : i < n) (x : Item) (xe : x ≡ item_at s i) where
  pub high_found : 3 < x.flags → any has_high_flags (each (item_at s) i (n - i)) ≡ g → true ≡ g
  high_found high = any_found has_high_flags (item_at s) n i g l x xe (lt-ltb 3 x.flags high)

  pub high_more : x.flags ≤ 3 → any has_high_flags (each (item_at s) i (n - i)) ≡ g → any has_high_flags (each (item_at s) (i + 1) (n - (i + 1))) ≡ g
  high_more low = any_more has_high_flags (item_at s) n i g l x xe (le-ltb 3 x.flags low)

-- ---- a destination, by the row of its address

module _ (t : List ℕ) (x : Item) (f : Option ℕ) (fe : f ≡ find_row t x.address) (q : Target) where
  pub number_absent : f ≡ None → q ≡ without_known x → q ≡ asked_for t x
  unfolding asked_for asked_by
  number_absent e qe = rw (row_none t x.address f fe e) qe

  module _ (i : ℕ) (at_i : f ≡ Some i) (r : Row) (re : r ≡ row_at t i) where
    pub number_unknown : (r.known ≡ 1 → ⊥) → q ≡ without_known x → q ≡ asked_for t x
    unfolding asked_for asked_by
    number_unknown k qe = rw (row_at_lem t x.address f fe i at_i r re, ne_eqb r.known 1 k) qe

    pub number_known : r.known ≡ 1 → q ≡ with_known x r.number → q ≡ asked_for t x
    unfolding asked_for asked_by
    number_known k qe = rw (row_at_lem t x.address f fe i at_i r re, eq-eqb r.known 1 k) qe

-- ---- its destinations one by one, by what is left to write; g is the whole

abbrev pub asked_octets : List ℕ → Item → List ℕ
asked_octets t x = target_octets (asked_for t x)

asked_one_by_one : (t : List ℕ) (l : List Item) → flat_map target_octets (map (asked_for t) l) ≡ flat_map (asked_octets t) l
unfolding flat_map
asked_one_by_one t [] = refl
asked_one_by_one t (x ∷ l) = ap (λ (m : List ℕ). asked_octets t x ++ m) (asked_one_by_one t l)

module _ (t s : List ℕ) (n : ℕ) where
  pub asked_start : (out : List ℕ) (at : ℕ)
      → overwrite out at (flat_map (asked_octets t) (each (item_at s) 0 (n - 0))) ≡ overwrite out at (flat_map target_octets (map (asked_for t) (each (item_at s) 0 n)))
  asked_start out at = rw (sub-zero n) (ap (overwrite out at) (sym (asked_one_by_one t (each (item_at s) 0 n))))

  pub asked_more : (out u g : List ℕ) (i at at' : ℕ) → i < n → (x : Item) → x ≡ item_at s i → (y : Target) → y ≡ asked_for t x
      → u ≡ overwrite out at (target_octets y) → at' ≡ at + 11 → overwrite out at (flat_map (asked_octets t) (each (item_at s) i (n - i))) ≡ g
      → overwrite u at' (flat_map (asked_octets t) (each (item_at s) (i + 1) (n - (i + 1)))) ≡ g
  asked_more out u g i at at' l x xe y ye ue ae =
      let same_target : y ≡ asked_for t (item_at s i) = ye ∙ ap (asked_for t) xe in
      entries_more (asked_octets t) (item_at s) n out u g i at at' l (ue ∙ ap (λ (z : Target). overwrite out at (target_octets z)) same_target)
      (ae ∙ ap (λ (k : ℕ). at + k) (sym (target_length (asked_for t (item_at s i)))))

-- ---- the exit

asked_many : (t s : List ℕ) → length s / 7 ≡ length (map (asked_for t) (items_in s))
asked_many t s = sym (length-map (items_in s) (asked_for t) ∙ each_length (item_at s) 0 (length s / 7))

pub asked_written : (t s w output v : List ℕ) (h : Head) (lifetime : ℕ)
    → w ≡ overwrite output 0 (frame_start all_ones Rreq (length s / 7) (rreq_numbers (own_request h 0 lifetime)))
    → (at : ℕ) → at ≡ 34 → v ≡ overwrite w at (flat_map target_octets (map (asked_for t) (items_in s)))
    → v ≡ overwrite output 0 (write_frame all_ones (rreq (own_request h 0 lifetime) (map (asked_for t) (items_in s))))
asked_written t s w output v h lifetime = request_finished w output v h 0 lifetime (map (asked_for t) (items_in s)) (length s / 7) (asked_many t s)

module _ (t s output u v : List ℕ) (octets : ℕ) (size : octets ≡ 34 + 11 * (length s / 7)) where
  pub asked_exit : (lifetime : ℕ) (h₀ h : Head) → h₀ ≡ head_at t → h ≡ numbered_head true h₀
      → v ≡ overwrite output 0 (write_frame all_ones (rreq (own_request h 0 lifetime) (map (asked_for t) (items_in s)))) → u ≡ put_head t h
      → (em : Emitted) → em ≡ record { frames = 1; octets = octets }
      → exit_of (Ok em) (lend u) v ≡ at_exit (lend t) output (Ok (requested (lend t) 0 lifetime (map (asked_for t) (items_in s))))
  asked_exit lifetime h₀ h e₀ he ve ue =
      requested_exit t output u v 0 lifetime h₀ h e₀ he ue (map (asked_for t) (items_in s)) (length s / 7) (asked_many t s) ve octets size

-- ---- from the answer of the check

-- The own address is read from the head.
pub own_named : (t : List ℕ) (h : Head) → h ≡ head_at t → (l : List Address) (b : Bool) → b ≡ contains l h.own → (v : Bool) → b ≡ v → contains l (own t) ≡ v
own_named t h he l b be v bv = ap (λ (k : Head). contains l k.own) (sym he) ∙ sym be ∙ bv

-- If the checks of the items pass, the checks after them decide.
pub items_passed : (s : List ℕ) (a : Decision ⊤) → a ≡ answer_to (item_checks s) → (checks : List Check) → (done : ⊤) → a ≡ Ok done → (r : Decision ⊤) → r ≡ answer_to checks
    → r ≡ answer_to (item_checks s ++ checks)
items_passed s = passed_first (item_checks s)

module _ (t output s : List ℕ) (lifetime : ℕ) (a : Decision ⊤) (ae : a ≡ answer_to (asking (lend t) (length output) lifetime s).checks) where
  module _ (done : ⊤) (ok : a ≡ Ok done) where
    ask_passed : Passed (asking (lend t) (length output) lifetime s).checks
    ask_passed = answer_passed (asking (lend t) (length output) lifetime s).checks done (sym ok ∙ ae)

    pub ask_table_sized : Sized t
    unfolding asking
    ask_table_sized = table_sized t output _ a ae done ok

    pub ask_output_long : 1560 ≤ length output
    unfolding asking
    ask_output_long = output_long t output _ a ae done ok

    -- An accepted ask has 1 to 20 items.
    items_fit_lem : ((eqb (length s % 7) 0 && leb 7 (length s)) ≡ true) × (leb (length s) 140 ≡ true)
    unfolding items_fit listed
    items_fit_lem =
        (and-eq-true_iff (eqb (length s % 7) 0 && leb 7 (length s)) (leb (length s) 140)).0
        (not-false (items_fit s) (passed_check 8 (asking (lend t) (length output) lifetime s).checks ask_passed))

    pub items_some : 7 ≤ length s
    items_some = leb-true 7 (length s) ((and-eq-true_iff (eqb (length s % 7) 0) (leb 7 (length s))).0 items_fit_lem.0).1

    pub items_few : length s ≤ 140
    items_few = leb-true (length s) 140 items_fit_lem.1

  pub ask_refused : (n : Refusal) → a ≡ Err n → exit_of (Err n) (lend t) output ≡ at_exit (lend t) output (ask (lend t) (length output) lifetime s)
  unfolding ask
  ask_refused = refusal (lend t) output (asking (lend t) (length output) lifetime s) a ae

  pub ask_accepted : (done : ⊤) → a ≡ Ok done → (x : Exit) → x ≡ at_exit (lend t) output (Ok (requested (lend t) 0 lifetime (map (asked_for t) (items_in s))))
      → x ≡ at_exit (lend t) output (ask (lend t) (length output) lifetime s)
  unfolding asking ask
  ask_accepted = acceptance (lend t) output (asking (lend t) (length output) lifetime s) a ae
