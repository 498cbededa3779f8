-- Laws of the layout that an octet of a head names. No rule uses layouts yet (docs/PORT.md, 'Unfinished work').
use Prim.Native.Nat.{ℕ}
use mathlib.Core.Path.{◌≡◌}
use borrow.Author.Tests.{ne_eqb}
use Rattle.layout.specs.declared.elements.Layout.TheVariants.{Draft, Standard}
use Rattle.layout.specs.Elements.{layout_named}

module _ (octet : ℕ) where
  pub standard_named : octet ≡ 1 → Standard ≡ layout_named octet
  unfolding layout_named
  standard_named e = cc

  pub draft_named : (octet ≡ 1 → ⊥) → Draft ≡ layout_named octet
  unfolding layout_named
  draft_named n = cc (ne_eqb octet 1 n)
