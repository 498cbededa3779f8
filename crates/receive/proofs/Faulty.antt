-- Laws of the faults in the destinations of a RREQ, as the proofs of the functions need them.
use Prim.Native.Nat.{ℕ, ◌+◌, ◌-◌, ◌<◌}
use mathlib.Core.Path.{◌≡◌, sym, ap, ap₂, ◌∙◌}
use mathlib.Core.Bool.{Bool, true, false, not, ◌&&◌, ◌||◌}
use mathlib.Core.List.{List}
use lib.Dec.{ltb}
use borrow.Author.Tests.{not-true, not-false}
use Rattle.layout.specs.declared.address.Address.{Address}
use Rattle.layout.specs.Address.{individual}
use Rattle.element.specs.declared.PathInfo.{PathInfo}
use Rattle.element.specs.declared.RreqFields.{RreqFields}
use Rattle.element.specs.declared.Target.{Target}
use Rattle.element.specs.declared.list.ListKind.TheVariants.{Targets}
use Rattle.element.specs.Element.{rreq}
use Rattle.element.specs.Entries.{each, entries_in, target_at, targets_in}
use Rattle.element.specs.Lists.{addresses_in, any_forbidden, all_ones, contains, has_duplicate, ones_beside_others}
use Rattle.element.proofs.Scans.{addresses_many, target_addresses_lem}
use Rattle.element.specs.Flags.{unicast}
use Rattle.rules.specs.Lists.{any}
use Rattle.rules.specs.Receive.{has_bad_address, has_bad_list, is_mismarked, several_or_all}
use Rattle.rules.proofs.AnyOf.{any_found, any_more}

-- A loop over n destinations, at destination i. The result for all of them is g.
module _ (part : List ℕ) (n i : ℕ) (g : Bool) (l : i < n) (q : Target) (qe : q ≡ target_at part i) (b : Bool) (be : b ≡ is_mismarked q) where
  pub mismarked_found : b ≡ true → any is_mismarked (each (target_at part) i (n - i)) ≡ g → true ≡ g
  mismarked_found e = any_found is_mismarked (target_at part) n i g l q qe (sym be ∙ e)

  pub mismarked_more : b ≡ false → any is_mismarked (each (target_at part) i (n - i)) ≡ g → any is_mismarked (each (target_at part) (i + 1) (n - (i + 1))) ≡ g
  mismarked_more e = any_more is_mismarked (target_at part) n i g l q qe (sym be ∙ e)

-- Only the list of a unicast RREQ is searched.
module _ (p : PathInfo) (u : Bool) (ue : u ≡ unicast p) where
  pub not_unicast : not u ≡ true → (s : Bool) → false ≡ (unicast p && s)
  not_unicast e s = ap (λ (b : Bool). b && s) (sym (not-true u e) ∙ ue)

  pub is_unicast : not u ≡ false → (m s : Bool) → m ≡ s → m ≡ (unicast p && s)
  is_unicast e m s me = me ∙ ap (λ (b : Bool). b && s) (sym (not-false u e) ∙ ue)

module _ (part : List ℕ) where
  pub several_is : (n : ℕ) → n ≡ entries_in Targets part → (o : Bool) → o ≡ contains (addresses_in Targets part) all_ones
      → (ltb 1 n || o) ≡ several_or_all (addresses_in Targets part)
  unfolding several_or_all
  several_is n ne o oe = ap₂ (λ (k : ℕ) (b : Bool). ltb 1 k || b) (ne ∙ sym (addresses_many Targets part)) oe

  module _ (f : RreqFields) where
    pub bad_address_is : (b : Bool) → b ≡ individual f.path.subject → (x : Bool) → x ≡ any_forbidden Targets (addresses_in Targets part)
        → (not b || x) ≡ has_bad_address (rreq f (targets_in part))
    unfolding has_bad_address
    bad_address_is b be x xe = ap₂ (λ (c d : Bool). not c || d) be (xe ∙ ap (any_forbidden Targets) (sym (target_addresses_lem part)))

    list_faults : List Address → Bool
    list_faults l =
        has_duplicate l || ones_beside_others l || contains l f.path.subject || (unicast f.path && several_or_all l) || any is_mismarked (targets_in part)

    bad_list : list_faults (addresses_in Targets part) ≡ has_bad_list (rreq f (targets_in part))
    unfolding has_bad_list list_faults
    bad_list = ap list_faults (sym (target_addresses_lem part))

    -- The first fault decides.
    module _ (a : Bool) (ae : a ≡ has_duplicate (addresses_in Targets part)) where
      pub named_duplicate : a ≡ true → true ≡ has_bad_list (rreq f (targets_in part))
      unfolding list_faults
      named_duplicate e = rw (sym ae ∙ e) at bad_list

      module _ (no_a : a ≡ false) (b : Bool) (be : b ≡ ones_beside_others (addresses_in Targets part)) where
        pub ones_beside : b ≡ true → true ≡ has_bad_list (rreq f (targets_in part))
        unfolding list_faults
        ones_beside e = rw (sym ae ∙ no_a, sym be ∙ e) at bad_list

        module _ (no_b : b ≡ false) (c : Bool) (ce : c ≡ contains (addresses_in Targets part) f.path.subject) where
          pub originator_named : c ≡ true → true ≡ has_bad_list (rreq f (targets_in part))
          unfolding list_faults
          originator_named e = rw (sym ae ∙ no_a, sym be ∙ no_b, sym ce ∙ e) at bad_list

          module _ (no_c : c ≡ false) (m : Bool) (me : m ≡ (unicast f.path && several_or_all (addresses_in Targets part))) where
            pub unicast_to_many : m ≡ true → true ≡ has_bad_list (rreq f (targets_in part))
            unfolding list_faults
            unicast_to_many e = rw (sym ae ∙ no_a, sym be ∙ no_b, sym ce ∙ no_c, sym me ∙ e) at bad_list

            pub mismarked_last : m ≡ false → (x : Bool) → x ≡ any is_mismarked (targets_in part) → x ≡ has_bad_list (rreq f (targets_in part))
            unfolding list_faults
            mismarked_last e x xe = xe ∙ rw (sym ae ∙ no_a, sym be ∙ no_b, sym ce ∙ no_c, sym me ∙ e) at bad_list
