-- Defines what the code of the walk holds between hops. Only contracts of the code use the definitions of this file. They are no
-- part of what a walk is.
use Rattle.std.specs.Prelude.{ℕ, cond, ◌||◌, List}
use Rattle.layout.specs.declared.address.Address.{Address}
use Rattle.layout.specs.Address.{same}
use Rattle.element.specs.Lists.{contains}
use Rattle.rules.specs.Walk.{Walked, stopped, points, follow}

-- Returns the ending at address a, from which nothing leads on. If a is a point, the walk has `hops` hops. Otherwise the hop
-- to a is not counted, and the walk has `before` hops.
unfoldable pub stopped_at : List (List ℕ) → Address → (hops before : ℕ) → Walked
stopped_at tables a hops before = cond (contains (points tables) a) (stopped hops) (stopped before)

-- Returns the ending of a walk that stands at address a, which may be neither the destination nor a point.
unfoldable pub resumed : List (List ℕ) → ℕ → Address → (remaining : ℕ) → Address → (hops before : ℕ) → Walked
resumed tables c d remaining a hops before =
    cond (same a d || contains (points tables) a) (follow tables c d remaining a hops) (stopped before)
