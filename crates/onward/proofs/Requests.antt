-- Laws of forwarding a RREQ, case by case, as the proofs of the functions need them.
use Rattle.std.specs.Prelude.{Option, None, Some, filter_map}
use Prim.Native.Nat.{ℕ, ◌+◌, ◌-◌, ◌*◌, ◌/◌, ◌<◌, ◌≤◌}
use mathlib.Core.Path.{◌≡◌, refl, sym, ap, ap₂, subst, ◌∙◌}
use mathlib.Core.Bool.{Bool, true, false, cond}
use mathlib.Core.List.{List, [], ◌∷◌, flat_map}
use lib.ListN.{length}
use native.Mathlib.Omega.{arith}
use borrow.Author.Tests.{lt-ltb, le-ltb, ltb-false}
use Rattle.octets.specs.LittleEndian.{overwrite}
use Rattle.layout.specs.declared.address.Address.{Address}
use Rattle.table.specs.Table.{row_for, active_next}
use Rattle.element.specs.declared.Kind.TheVariants.{Rreq}
use Rattle.element.specs.declared.PathInfo.{PathInfo}
use Rattle.element.specs.declared.RreqFields.{RreqFields}
use Rattle.element.specs.declared.Target.{Target}
use Rattle.element.specs.Element.{Element, rreq, rreq_numbers}
use Rattle.element.specs.Entries.{each, All, target_at, target_octets}
use Rattle.element.specs.Lists.{all_ones}
use Rattle.element.specs.Layout.{PartOf}
use Rattle.element.specs.Octets.{frame_start}
use Rattle.writing.proofs.Written.{started_last}
use Rattle.rules.specs.declared.Arrival.{Arrival}
use Rattle.element.specs.Flags.{unicast}
use Rattle.rules.specs.Onward.{onward, sent_to, to_all, rreq_onward}
use Rattle.rules.specs.Exit.{Frame, frame_octets}
use Rattle.calls.specs.declared.Emitted.{Emitted}
use Rattle.calls.specs.Answers.{emitted}
use Rattle.onward.specs.Kept.{kept_of, kept_among}
use Rattle.onward.proofs.KeptOnes.{kept_address, kept_few}
use Rattle.onward.specs.Sent.{request_receiver, sent_with, unicast_to_several}
use Rattle.onward.proofs.Going.{none_counted, none_written, one_counted, one_written}

-- ---- the kept destinations, and the start after them

module _ (t : List ℕ) (c : ℕ) (part : List ℕ) (to : Address) (f : RreqFields) (out v : List ℕ) (at end : ℕ)
    (ee : end ≡ at + 34 + 11 * length (kept_among t c part)) (ve : v ≡ overwrite out (at + 34) (flat_map target_octets (kept_among t c part))) where
  module _ (none_kept : end ≡ at + 34) where
    kept_nothing : kept_among t c part ≡ []
    kept_nothing = by (kept_among t c part) (omega (arith, ee, none_kept))
      where
        by : (l : List Target) → length l ≡ 0 → l ≡ []
        by [] e = refl
        by (q ∷ l) e = absurd (omega arith)

    sent_nothing : sent_with to f (kept_among t c part) ≡ []
    unfolding sent_with
    sent_nothing = ap (sent_with to f) kept_nothing

    pub nothing_kept : (e : Emitted) → e ≡ emitted [] → e ≡ emitted (sent_with to f (kept_among t c part))
    nothing_kept = none_counted (sent_with to f (kept_among t c part)) sent_nothing

    pub nothing_written : v ≡ overwrite out at (frame_octets (sent_with to f (kept_among t c part)))
    unfolding overwrite flat_map
    nothing_written =
        ve ∙ ap (λ (l : List Target). overwrite out (at + 34) (flat_map target_octets l)) kept_nothing ∙ none_written (sent_with to f (kept_among t c part)) sent_nothing out at

  module _ (some_kept : end ≡ at + 34 → ⊥) where
    kept_some : 1 ≤ length (kept_among t c part)
    kept_some = by (kept_among t c part) ee
      where
        by : (l : List Target) → end ≡ at + 34 + 11 * length l → 1 ≤ length l
        by [] e = absurd (some_kept (omega arith))
        by (q ∷ l) e = omega arith

    pub count_few : PartOf Rreq part → (end - (at + 34)) / 11 ≤ 20
    count_few l = omega (arith, ee, l.short, kept_few t c part)

    pub kept_room : PartOf Rreq part → end - at ≤ 1560
    kept_room l = omega (arith, ee, l.short, kept_few t c part)

    sent_one : sent_with to f (kept_among t c part) ≡ record { receiver = to; element = rreq f (kept_among t c part) } ∷ []
    unfolding sent_with
    sent_one = by (kept_among t c part) kept_some
      where
        by : (l : List Target) → 1 ≤ length l → sent_with to f l ≡ record { receiver = to; element = rreq f l } ∷ []
        by [] e = absurd (omega arith)
        by (q ∷ l) e = refl

    pub kept_counted : (em : Emitted) → em ≡ record { frames = 1; octets = end - at } → em ≡ emitted (sent_with to f (kept_among t c part))
    kept_counted = one_counted (sent_with to f (kept_among t c part)) to (rreq f (kept_among t c part)) sent_one (end - at) (omega (arith, ee))

    pub kept_sent : (w : List ℕ) → w ≡ overwrite v at (frame_start to Rreq ((end - (at + 34)) / 11) (rreq_numbers f))
        → w ≡ overwrite out at (frame_octets (sent_with to f (kept_among t c part)))
    kept_sent w we =
        one_written (sent_with to f (kept_among t c part)) to (rreq f (kept_among t c part)) sent_one out w at
        (started_last to out v w at (at + 34) (rreq f (kept_among t c part)) ((end - (at + 34)) / 11) (omega (arith, ee)) refl ve we)

-- ---- the whole

module _ (t : List ℕ) (a : Arrival) (f : RreqFields) where
  low_ttl : f.path.ttl < 2 → (kept : List Target) → rreq_onward t a f kept ≡ []
  unfolding rreq_onward
  low_ttl low [] = refl
  low_ttl low (q ∷ qs) = rw (lt-ltb f.path.ttl 2 low)

  module _ (low : f.path.ttl < 2) (kept : List Target) where
    pub request_low : (e : Emitted) → e ≡ emitted [] → e ≡ emitted (rreq_onward t a f kept)
    request_low = none_counted (rreq_onward t a f kept) (low_ttl low kept)

    pub request_low_unwritten : (s : List ℕ) (at : ℕ) → s ≡ overwrite s at (frame_octets (rreq_onward t a f kept))
    request_low_unwritten s at = none_written (rreq_onward t a f kept) (low_ttl low kept) s at

  abbrev fields_by : PathInfo → RreqFields
  fields_by p = record { request = f.request; path = p }

  -- Returns the frame with the kept destinations to a receiver, or no frame if there is no receiver.
  abbrev sent_by : PathInfo → List Target → Option Address → List Frame
  sent_by p kept None = []
  sent_by p kept (Some to) = sent_with to (fields_by p) kept

  abbrev path : PathInfo
  path = onward a f.path

  -- A unicast RREQ whose kept destinations all have the address d is forwarded to the active next hop for d.
  module _ (left : 2 ≤ f.path.ttl) (d : Address) where
    abbrev receiver_for : Bool → Option Address
    receiver_for b = cond b (active_next a.clock (row_for t d)) (Some all_ones)

    sent_as : (q : Target) (qs : List Target) (x : Option Address) → sent_to (rreq (fields_by path) (q ∷ qs)) x ≡ sent_by path (q ∷ qs) x
    unfolding sent_with
    sent_as q qs (Some to) = refl
    sent_as q qs None = refl

    goes_by : (kept : List Target) → (unicast f.path ≡ true → All (λ (k : Target). k.address ≡ d) kept)
        → rreq_onward t a f kept ≡ sent_by path kept (receiver_for (unicast f.path))
    unfolding rreq_onward sent_with All
    goes_by [] h = by (receiver_for (unicast f.path))
      where
        by : (x : Option Address) → [] ≡ sent_by path [] x
        by (Some to) = refl
        by None = refl
    goes_by (q ∷ qs) h = rw (le-ltb f.path.ttl 2 left) (by (unicast f.path) h)
      where
        e : Element
        e = rreq (fields_by path) (q ∷ qs)

        by : (b : Bool) → (b ≡ true → All (λ (k : Target). k.address ≡ d) (q ∷ qs))
            → cond b (sent_to e (active_next a.clock (row_for t q.address))) (to_all e) ≡ sent_by path (q ∷ qs) (receiver_for b)
        by true h =
            ap (λ (k : Address). sent_to e (active_next a.clock (row_for t k))) (h refl).0
            ∙ sent_as q qs (active_next a.clock (row_for t d))
        by false h = refl

  module _ (part : List ℕ) (left : 2 ≤ f.path.ttl) (some_target : 11 ≤ length part) (one_target : unicast_to_several f.path part ≡ false)
      (x : Option Address) (xe : x ≡ request_receiver t a.clock f.path part) where
    abbrev kept : List Target
    kept = kept_among t a.clock part

    -- The only destination of a unicast RREQ is kept with its address, if it is kept.
    kept_one : unicast f.path ≡ true → All (λ (k : Target). k.address ≡ (target_at part 0).address) kept
    unfolding kept_among each unicast_to_several
    kept_one u =
        let few : length part / 11 ≡ 1 = omega (arith, some_target, ltb-false 1 (length part / 11) (rw u at one_target)) in
        subst (λ (n : ℕ). All (λ (k : Target). k.address ≡ (target_at part 0).address) (filter_map (kept_of t a.clock) (each (target_at part) 0 n))) (sym few)
        (kept_address t a.clock (target_at part 0))

    -- The RREQ goes to its receiver.
    request_is : rreq_onward t a f kept ≡ sent_by path kept x
    unfolding request_receiver
    request_is = goes_by left (target_at part 0).address kept kept_one ∙ ap (sent_by path kept) (sym xe)

    module _ (e : x ≡ None) where
      no_receiver : rreq_onward t a f kept ≡ []
      no_receiver = request_is ∙ ap (sent_by path kept) e

      pub request_none : (em : Emitted) → em ≡ emitted [] → em ≡ emitted (rreq_onward t a f kept)
      request_none = none_counted (rreq_onward t a f kept) no_receiver

      pub request_unwritten : (s : List ℕ) (at : ℕ) → s ≡ overwrite s at (frame_octets (rreq_onward t a f kept))
      request_unwritten = none_written (rreq_onward t a f kept) no_receiver

    module _ (to : Address) (e : x ≡ Some to) (p : PathInfo) (pe : p ≡ path) where
      request_goes : sent_with to (fields_by p) kept ≡ rreq_onward t a f kept
      request_goes = ap₂ (λ (q : PathInfo) (y : Option Address). sent_by q kept y) pe (sym e) ∙ sym request_is

      pub request_counted : (em : Emitted) → em ≡ emitted (sent_with to (fields_by p) kept) → em ≡ emitted (rreq_onward t a f kept)
      request_counted em eme = eme ∙ ap emitted request_goes

      pub request_written : (s v : List ℕ) (at : ℕ) → v ≡ overwrite s at (frame_octets (sent_with to (fields_by p) kept))
          → v ≡ overwrite s at (frame_octets (rreq_onward t a f kept))
      request_written s v at ve = ve ∙ ap (λ (l : List Frame). overwrite s at (frame_octets l)) request_goes
