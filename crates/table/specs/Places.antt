-- Defines, for a test on the places below n: the first place that passes, how many pass, and whether every place passes.
use Rattle.std.specs.Prelude.{ℕ, Bool, Option}
use Rattle.std.specs.List.{count_by, find, list_all, range_with_len}

abbrev pub first : (ℕ → Bool) → ℕ → Option ℕ
first p n = find p (range_with_len 0 n)

abbrev pub count : (ℕ → Bool) → ℕ → ℕ
count p n = count_by p (range_with_len 0 n)

abbrev pub every : (ℕ → Bool) → ℕ → Bool
every p n = list_all p (range_with_len 0 n)
