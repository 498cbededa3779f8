-- States of a fact in the type of the bench that it has one proof at most, as the type needs it.
use Rattle.std.specs.Prelude.{ℕ, List}
use Rattle.std.specs.Coded.{Π_prop, le_prop}
use Rattle.octets.specs.LittleEndian.{Octets}

pub octets_prop : (s : List ℕ) → IsProp (Octets s)
unfolding Octets
octets_prop s = Π_prop (λ (k : ℕ). le_prop)
