-- Tests of a table's own address and latest clock, by the head that the code has read.
use Prim.Native.Nat.{ℕ, ◌<◌, ◌≤◌}
use mathlib.Core.Path.{◌≡◌, sym, ap, ◌∙◌}
use mathlib.Core.Bool.{Bool, true, false}
use mathlib.Core.List.{List}
use lib.Dec.{ltb}
use borrow.Author.Tests.{lt-ltb, le-ltb}
use Rattle.layout.specs.declared.address.Address.{Address}
use Rattle.layout.specs.declared.row.Head.{Head}
use Rattle.layout.specs.Address.{same}
use Rattle.layout.specs.Layout.{head_at}
use Rattle.table.specs.Table.{own, clock}

module _ (t : List ℕ) (h : Head) (he : h ≡ head_at t) where
  pub clock_early : (c : ℕ) → c < h.clock → ltb c (clock t) ≡ true
  clock_early c l = ap (λ (k : Head). ltb c k.clock) (sym he) ∙ lt-ltb c h.clock l

  pub clock_late : (c : ℕ) → h.clock ≤ c → ltb c (clock t) ≡ false
  clock_late c l = ap (λ (k : Head). ltb c k.clock) (sym he) ∙ le-ltb c h.clock l

  pub own_is : (a : Address) (b v : Bool) → b ≡ same a h.own → b ≡ v → same a (own t) ≡ v
  own_is a b v be bv = ap (λ (k : Head). same a k.own) (sym he) ∙ sym be ∙ bv

pub ruleset by_head = (clock_early, clock_late, own_is)
