-- No refusal has number 0, which is the answer of an acceptance.
use Prim.Native.Nat.{ℕ}
use mathlib.Core.Path.{◌≡◌}
use native.Mathlib.Omega.{arith}
use Rattle.refusals.specs.declared.Refusal.{Refusal}
use Rattle.refusals.specs.declared.Refusal.TheVariants.{
  TableLength,
  ShortOutput,
  ClockTooLarge,
  BadNeighbour,
  NoLink,
  ElementLength,
  UnknownId,
  BadCount,
  BadAddress,
  BadList,
  NoLifetime,
  TooManyHops,
  MetricTooLarge,
  LowTtl,
  NotATable,
  OldClock,
  FromItself,
  AboutItself,
  Stale,
  NoMatch,
  NoRoom,
  NoNextHop,
  NotHeld,
}
use Rattle.refusals.specs.Numbers.{number_of}

pub never_0 : (r : Refusal) → number_of r ≡ 0 → ⊥
never_0 TableLength e = omega (arith, e)
never_0 ShortOutput e = omega (arith, e)
never_0 ClockTooLarge e = omega (arith, e)
never_0 BadNeighbour e = omega (arith, e)
never_0 NoLink e = omega (arith, e)
never_0 ElementLength e = omega (arith, e)
never_0 UnknownId e = omega (arith, e)
never_0 BadCount e = omega (arith, e)
never_0 BadAddress e = omega (arith, e)
never_0 BadList e = omega (arith, e)
never_0 NoLifetime e = omega (arith, e)
never_0 TooManyHops e = omega (arith, e)
never_0 MetricTooLarge e = omega (arith, e)
never_0 LowTtl e = omega (arith, e)
never_0 NotATable e = omega (arith, e)
never_0 OldClock e = omega (arith, e)
never_0 FromItself e = omega (arith, e)
never_0 AboutItself e = omega (arith, e)
never_0 Stale e = omega (arith, e)
never_0 NoMatch e = omega (arith, e)
never_0 NoRoom e = omega (arith, e)
never_0 NoNextHop e = omega (arith, e)
never_0 NotHeld e = omega (arith, e)
