-- Laws of forwarding, case by case, as the proofs of the functions need them.
use Rattle.std.specs.Prelude.{Option, None, Some}
use Prim.Native.Nat.{ℕ, ◌+◌, ◌-◌, ◌/◌, ◌%◌, ◌<◌, ◌≤◌}
use mathlib.Core.Path.{◌≡◌, refl, sym, ap, ap₂, ◌∙◌}
use mathlib.Core.Bool.{Bool, true, false, cond}
use mathlib.Core.List.{List, [], ◌∷◌}
use lib.ListN.{length}
use native.Mathlib.Omega.{arith}
use borrow.Author.Tests.{lt-ltb, le-ltb}
use Rattle.octets.specs.LittleEndian.{overwrite}
use Rattle.counters.specs.declared.HopCount.{HopCount}
use Rattle.counters.specs.declared.Metric.{Metric}
use Rattle.layout.specs.declared.address.Address.{Address}
use Rattle.layout.specs.Address.{same}
use Rattle.table.specs.Table.{own, row_for, active_next}
use Rattle.element.specs.declared.NumberedAddress.{NumberedAddress}
use Rattle.element.specs.declared.PathInfo.{PathInfo}
use Rattle.element.specs.declared.RrepFields.{RrepFields}
use Rattle.element.specs.Element.{Element, rann, rrep, kind_of, count_of}
use Rattle.element.specs.Layout.{length_with}
use Rattle.element.specs.Entries.{numbered_at, numbered_in}
use Rattle.element.specs.Lists.{all_ones}
use Rattle.element.specs.Octets.{write_frame}
use Rattle.element.proofs.Scans.{each_length}
use Rattle.element.proofs.Sizes.{frame_length}
use Rattle.rules.specs.declared.Arrival.{Arrival}
use Rattle.rules.specs.Learn.{hops_here, metric_here}
use Rattle.rules.specs.Onward.{onward, sent_to, to_all, rann_onward, rrep_onward}
use Rattle.rules.specs.Exit.{Frame, frame_octets}
use Rattle.rules.proofs.FrameOctets.{no_frame, one_frame}
use Rattle.calls.specs.declared.Emitted.{Emitted}
use Rattle.calls.specs.Answers.{emitted}
use Rattle.onward.specs.Sent.{reply_receiver}

-- ---- the three changes

pub farther : (a : Arrival) (p : PathInfo) (h : HopCount) → h ≡ hops_here p → (m : Metric) → m ≡ metric_here a p → (t : ℕ) → t ≡ p.ttl - 1
    → record { flags = p.flags; hops = h; ttl = t; subject = p.subject; number = p.number; lifetime = p.lifetime; metric = m } ≡ onward a p
unfolding onward
farther a p h he m me t te = rw (he, me, te)

-- ---- no frame, or one

-- There is no frame.
module _ (frames : List Frame) (none_sent : frames ≡ []) where
  pub none_counted : (e : Emitted) → e ≡ emitted [] → e ≡ emitted frames
  none_counted e ee = ee ∙ ap emitted (sym none_sent)

  pub none_written : (s : List ℕ) (at : ℕ) → s ≡ overwrite s at (frame_octets frames)
  unfolding overwrite
  none_written s at = rw (none_sent, no_frame)

-- There is one frame.
module _ (frames : List Frame) (to : Address) (e : Element) (one_sent : frames ≡ record { receiver = to; element = e } ∷ []) where
  pub one_counted : (octets : ℕ) → octets ≡ 8 + length_with (kind_of e) (count_of e) → (em : Emitted) → em ≡ record { frames = 1; octets = octets } → em ≡ emitted frames
  one_counted octets size em eme = eme ∙ rw (one_sent, one_frame, size, frame_length)

  pub one_written : (s v : List ℕ) (at : ℕ) → v ≡ overwrite s at (write_frame to e) → v ≡ overwrite s at (frame_octets frames)
  one_written s v at ve = rw (one_sent, one_frame) ve

-- ---- a RANN

module _ (a : Arrival) (p : PathInfo) where
  module _ (low : p.ttl < 2) where
    announcement_stays : rann_onward a p ≡ []
    unfolding rann_onward
    announcement_stays = rw (lt-ltb p.ttl 2 low)

    pub announcement_none : (e : Emitted) → e ≡ emitted [] → e ≡ emitted (rann_onward a p)
    announcement_none = none_counted (rann_onward a p) announcement_stays

    pub announcement_unwritten : (s : List ℕ) (at : ℕ) → s ≡ overwrite s at (frame_octets (rann_onward a p))
    announcement_unwritten = none_written (rann_onward a p) announcement_stays

  module _ (left : 2 ≤ p.ttl) (q : PathInfo) (qe : q ≡ onward a p) where
    announcement_goes : rann_onward a p ≡ to_all (rann q)
    unfolding rann_onward
    announcement_goes = rw (le-ltb p.ttl 2 left, qe)

    pub announcement_counted : (at end : ℕ) → end ≡ at + 29 → (em : Emitted) → em ≡ record { frames = 1; octets = end - at } → em ≡ emitted (rann_onward a p)
    announcement_counted at end size = one_counted (rann_onward a p) all_ones (rann q) announcement_goes (end - at) (omega (arith, size))

    pub announcement_written : (s v : List ℕ) (at : ℕ) → v ≡ overwrite s at (write_frame all_ones (rann q)) → v ≡ overwrite s at (frame_octets (rann_onward a p))
    announcement_written = one_written (rann_onward a p) all_ones (rann q) announcement_goes

-- ---- a RREP

module _ (t : List ℕ) (a : Arrival) (f : RrepFields) (part : List ℕ) (x : Option Address) (xe : x ≡ reply_receiver t a.clock f.source.address) where
  abbrev dependents : List NumberedAddress
  dependents = numbered_in part

  abbrev element_by : PathInfo → Element
  element_by p = rrep (record { path = p; source = f.source }) dependents

  -- The RREP goes to its receiver.
  reply_is : rrep_onward t a f dependents ≡ sent_to (element_by (onward a f.path)) x
  unfolding rrep_onward reply_receiver
  reply_is = by (same f.source.address (own t)) ∙ ap (sent_to e) (sym xe)
    where
      e : Element
      e = element_by (onward a f.path)

      o : Option Address
      o = active_next a.clock (row_for t f.source.address)

      by : (b : Bool) → cond b [] (sent_to e o) ≡ sent_to e (cond b None o)
      by true = refl
      by false = refl

  module _ (e : x ≡ None) where
    no_receiver : rrep_onward t a f dependents ≡ []
    no_receiver = reply_is ∙ ap (sent_to (element_by (onward a f.path))) e

    pub reply_none : (em : Emitted) → em ≡ emitted [] → em ≡ emitted (rrep_onward t a f dependents)
    reply_none = none_counted (rrep_onward t a f dependents) no_receiver

    pub reply_unwritten : (s : List ℕ) (at : ℕ) → s ≡ overwrite s at (frame_octets (rrep_onward t a f dependents))
    reply_unwritten = none_written (rrep_onward t a f dependents) no_receiver

  module _ (to : Address) (e : x ≡ Some to) (p : PathInfo) (pe : p ≡ onward a f.path) where
    reply_goes : rrep_onward t a f dependents ≡ record { receiver = to; element = element_by p } ∷ []
    reply_goes = reply_is ∙ ap₂ (λ (q : PathInfo) (y : Option Address). sent_to (element_by q) y) (sym pe) e

    pub reply_counted : (at end : ℕ) → end ≡ at + 40 + length part → length part % 10 ≡ 0 → (em : Emitted) → em ≡ record { frames = 1; octets = end - at }
        → em ≡ emitted (rrep_onward t a f dependents)
    reply_counted at end size whole =
        one_counted (rrep_onward t a f dependents) to (element_by p) reply_goes (end - at)
        (omega (arith, size, whole, each_length (numbered_at part) 0 (length part / 10)))

    pub reply_written : (s v : List ℕ) (at : ℕ) → v ≡ overwrite s at (write_frame to (element_by p)) → v ≡ overwrite s at (frame_octets (rrep_onward t a f dependents))
    reply_written = one_written (rrep_onward t a f dependents) to (element_by p) reply_goes
