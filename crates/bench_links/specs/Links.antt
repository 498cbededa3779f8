-- Defines the link metrics of every pair of 16 points. 0 is no link. PROTOCOL, 'Bench'.
use Rattle.std.specs.Prelude.{ℕ, List, [], get_or, set, replicate}

-- No link between any two points, as at the start of the bench.
abbrev pub no_links : List (List ℕ)
no_links = replicate 16 (replicate 16 0)

-- Returns the metric from p to q.
abbrev pub metric_of : List (List ℕ) → ℕ → ℕ → ℕ
metric_of links p q = get_or (get_or links p []) q 0

-- Returns the links with the metric from p to q replaced.
abbrev pub one_way : List (List ℕ) → ℕ → ℕ → ℕ → List (List ℕ)
one_way links p q metric = set links p (set (get_or links p []) q metric)

-- Returns the links with the metric between p and q replaced, both ways.
unfoldable pub linked : List (List ℕ) → ℕ → ℕ → ℕ → List (List ℕ)
linked links p q metric = one_way (one_way links p q metric) q p metric
