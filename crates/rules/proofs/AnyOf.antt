-- Laws for a loop that looks for an entry that passes a test, and ends at the first. The result for the whole list is g.
use Rattle.rules.specs.Lists.{any}
use Prim.Native.Nat.{ℕ, ◌+◌, ◌-◌, ◌<◌, ◌≤◌}
use mathlib.Core.Path.{◌≡◌, refl, sym, ap, ◌∙◌}
use mathlib.Core.Bool.{Bool, true, false}
use native.Mathlib.Nat.{sub-zero}
use Rattle.element.specs.Entries.{each}
use Rattle.element.proofs.Scans.{scan_found, scan_more, scan_ended}

module _ {A : Type 0} (test : A → Bool) (entry : ℕ → A) (n : ℕ) where
  pub any_start : any test (each entry 0 (n - 0)) ≡ any test (each entry 0 n)
  any_start = rw (sub-zero n)

  module _ (i : ℕ) (g : Bool) where
    module _ (l : i < n) (x : A) (xe : x ≡ entry i) where
      pub any_found : test x ≡ true → any test (each entry i (n - i)) ≡ g → true ≡ g
      any_found passes = scan_found (any test) (λ y _. test y) refl (λ _ _. refl) entry n i g l (ap test (sym xe) ∙ passes)

      pub any_more : test x ≡ false → any test (each entry i (n - i)) ≡ g → any test (each entry (i + 1) (n - (i + 1))) ≡ g
      any_more fails = scan_more (any test) (λ y _. test y) refl (λ _ _. refl) entry n i g l (ap test (sym xe) ∙ fails)

    pub any_ended : n ≤ i → any test (each entry i (n - i)) ≡ g → false ≡ g
    any_ended = scan_ended (any test) (λ y _. test y) refl (λ _ _. refl) entry n i g
