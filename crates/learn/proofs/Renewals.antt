-- Laws of steps 1 and 2, case by case, as the proofs of the functions need them.
use Rattle.std.specs.Prelude.{Option, None, Some, is_none}
use Prim.Native.Nat.{ℕ, ◌+◌}
use mathlib.Core.Path.{◌≡◌, refl, sym, ap, ◌∙◌}
use mathlib.Core.Bool.{Bool, true, false, not, ◌&&◌, ◌||◌}
use mathlib.Core.List.{List}
use lib.Dec.{eqb, leb, ltb}
use borrow.Author.Tests.{not-true, not-false}
use Rattle.counters.specs.declared.Metric.{Metric}
use Rattle.counters.specs.declared.HopCount.{HopCount}
use Rattle.layout.specs.declared.address.Address.{Address}
use Rattle.layout.specs.declared.row.Row.{Row}
use Rattle.layout.specs.Address.{same}
use Rattle.layout.specs.Layout.{row_at}
use Rattle.layout.specs.Row.{active, renewed, numbered}
use Rattle.table.specs.Table.{find_row, row_for, store}
use Rattle.table.proofs.Cases.{row_at_lem, row_none}
use Rattle.table.proofs.Lookup.{row_destination}
use Rattle.element.specs.declared.PathInfo.{PathInfo}
use Rattle.rules.specs.declared.Arrival.{Arrival}
use Rattle.rules.specs.Learn.{metric_here, hops_here, new_row, row_or_new, expiry_of, subject_row, transmitter_row, row_takes_link, takes_link, subject_learnt, transmitter_learnt, learnt}

-- ---- the row that a step changes

module _ (t : List ℕ) (d : Address) (f : Option ℕ) (fe : f ≡ find_row t d) where
  pub row_found : (i : ℕ) → f ≡ Some i → (r : Row) → r ≡ row_at t i → r ≡ row_or_new d (row_for t d)
  row_found i e r re = rw (row_at_lem t d f fe i e r re)

  pub row_made : f ≡ None → (r : Row) → r ≡ new_row d → r ≡ row_or_new d (row_for t d)
  row_made e r re = rw (row_none t d f fe e) re

row_or_new_destination : (t : List ℕ) (d : Address) → (row_or_new d (row_for t d)).destination ≡ d
row_or_new_destination t d = by (row_for t d) refl
  where
    by : (o : Option Row) → row_for t d ≡ o → (row_or_new d o).destination ≡ d
    by None e = refl
    by (Some r) e = row_destination t d r e

-- The place found is still that of the row's destination, if the step leaves the destination as it is.
place_stays : (t : List ℕ) (d : Address) (f : Option ℕ) → f ≡ find_row t d → (r : Row) → r ≡ row_or_new d (row_for t d) → (s : Row) → s.destination ≡ r.destination
    → f ≡ find_row t s.destination
place_stays t d f fe r re s same-one =
    fe ∙ ap (find_row t) (sym (same-one ∙ ap (λ (x : Row). x.destination) re ∙ row_or_new_destination t d))

module _ (c lifetime : ℕ) (r : Row) (b : Bool) (be : b ≡ active c r) where
  pub expiry_stays : (b && ltb (c + lifetime) r.expiry) ≡ true → r.expiry ≡ expiry_of c lifetime r
  unfolding expiry_of
  expiry_stays e = rw (← be, e)

  pub expiry_set : (b && ltb (c + lifetime) r.expiry) ≡ false → c + lifetime ≡ expiry_of c lifetime r
  unfolding expiry_of
  expiry_set e = rw (← be, e)

-- ---- step 1

module _ (a : Arrival) (p : PathInfo) where
  pub subject_renewed : (r : Row) (expiry : ℕ) → expiry ≡ expiry_of a.clock p.lifetime r → (metric : Metric) → metric ≡ metric_here a p
      → (hops : HopCount) → hops ≡ hops_here p → (s : Row) → s ≡ renewed a.transmitter metric hops expiry r
      → (x : Row) → x ≡ numbered p.number s → x ≡ subject_row a p r
  unfolding subject_row
  subject_renewed r expiry ee metric me hops he s se x xe = xe ∙ ap (numbered p.number) (se ∙ rw (ee, me, he))

  pub subject_place : (t : List ℕ) (f : Option ℕ) → f ≡ find_row t p.subject → (r : Row) → r ≡ row_or_new p.subject (row_for t p.subject)
      → (s : Row) → s ≡ subject_row a p r → f ≡ find_row t s.destination
  unfolding subject_row numbered renewed
  subject_place t f fe r re s se = place_stays t p.subject f fe r re s (ap (λ (x : Row). x.destination) se)

  pub subject_stored : (t u : List ℕ) (r s : Row) → r ≡ row_or_new p.subject (row_for t p.subject) → s ≡ subject_row a p r → u ≡ store t s → u ≡ subject_learnt a p t
  unfolding subject_learnt
  subject_stored t u r s re se ue = ue ∙ ap (store t) (se ∙ ap (subject_row a p) re)

-- ---- step 2

module _ (a : Arrival) where
  module _ (r : Row) (b : Bool) (be : b ≡ active a.clock r) where
    pub link_better : b ≡ true → ltb a.link.0 r.metric.0 ≡ row_takes_link a r
    link_better e = rw (← be, e)

    pub link_as_good : b ≡ false → (eqb r.known 0 || leb a.link.0 r.metric.0) ≡ row_takes_link a r
    link_as_good e = rw (← be, e)

  pub transmitter_renewed : (lifetime : ℕ) (r : Row) (expiry : ℕ) → expiry ≡ expiry_of a.clock lifetime r
      → (s : Row) → s ≡ renewed a.transmitter a.link (record { 0 = 1 }) expiry r → s ≡ transmitter_row a lifetime r
  unfolding transmitter_row
  transmitter_renewed lifetime r expiry ee s se = se ∙ ap (λ (e : ℕ). renewed a.transmitter a.link (record { 0 = 1 }) e r) ee

  module _ (t : List ℕ) (f : Option ℕ) (fe : f ≡ find_row t a.transmitter) (r : Row) (re : r ≡ row_or_new a.transmitter (row_for t a.transmitter)) where
    -- An absent row is always made.
    taken : (is_none f || row_takes_link a r) ≡ takes_link a (row_for t a.transmitter)
    unfolding takes_link
    taken = rw re (by f fe)
      where
        by : (g : Option ℕ) → g ≡ find_row t a.transmitter
            → (is_none g || row_takes_link a (row_or_new a.transmitter (row_for t a.transmitter))) ≡ takes_link a (row_for t a.transmitter)
        by (Some i) e = rw (row_at_lem t a.transmitter (Some i) e i refl (row_at t i) refl)
        by None e = rw (row_none t a.transmitter None e refl)

    module _ (lifetime : ℕ) (b : Bool) (be : b ≡ (is_none f || row_takes_link a r)) where
      pub transmitter_stays : not b ≡ true → t ≡ transmitter_learnt a lifetime t
      unfolding transmitter_learnt
      transmitter_stays e = rw (sym taken ∙ sym be ∙ not-true b e)

      module _ (takes : not b ≡ false) (s : Row) (se : s ≡ transmitter_row a lifetime r) where
        pub transmitter_place : f ≡ find_row t s.destination
        unfolding transmitter_row renewed
        transmitter_place = place_stays t a.transmitter f fe r re s (ap (λ (x : Row). x.destination) se)

        pub transmitter_stored : (u : List ℕ) → u ≡ store t s → u ≡ transmitter_learnt a lifetime t
        unfolding transmitter_learnt
        transmitter_stored u ue = rw (sym taken ∙ sym be ∙ not-false b takes) (ue ∙ ap (store t) (se ∙ ap (transmitter_row a lifetime) re))

-- ---- both steps

module _ (a : Arrival) (p : PathInfo) (t u : List ℕ) (ue : u ≡ subject_learnt a p t) where
  pub subject_alone : (b : Bool) → b ≡ not (same a.transmitter p.subject) → b ≡ false → u ≡ learnt a p t
  unfolding learnt
  subject_alone b be e = rw (not-false (same a.transmitter p.subject) (sym be ∙ e)) ue

  pub both_learnt : (b : Bool) → b ≡ not (same a.transmitter p.subject) → b ≡ true → (v : List ℕ) → v ≡ transmitter_learnt a p.lifetime u → v ≡ learnt a p t
  unfolding learnt
  both_learnt b be e v ve = rw (not-true (same a.transmitter p.subject) (sym be ∙ e)) (ve ∙ ap (transmitter_learnt a p.lifetime) ue)
