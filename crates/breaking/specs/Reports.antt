-- Defines the RERRs of a break while the code writes them. Each RERR is begun with a count of 25, and the last RERR gets its own
-- count in the end. Only contracts of the code use the definitions of this file. They are no part of what a call is.
use Rattle.std.specs.Prelude.{ℕ, suc, ◌+◌, ◌*◌, ◌/◌, ◌%◌, cond, List, [], ◌∷◌, ◌++◌, eqb}
use Rattle.octets.specs.LittleEndian.{overwrite}
use Rattle.element.specs.declared.Kind.TheVariants.{Rerr}
use Rattle.element.specs.declared.LostDestination.{LostDestination}
use Rattle.element.specs.declared.list.ListKind.TheVariants.{LostDestinations}
use Rattle.element.specs.Element.{rerr_numbers}
use Rattle.element.specs.Entries.{lost_octets}
use Rattle.element.specs.Lists.{all_ones}
use Rattle.element.specs.Layout.{most, size_of}
use Rattle.element.specs.Octets.{frame_start, start_octets}
use Rattle.rules.specs.Errors.{errors_taken, own_error}

-- Returns how many octets the RERRs for k destinations take.
abbrev pub octets_for : ℕ → ℕ
octets_for k = size_of LostDestinations * k + start_octets Rerr * errors_taken k

-- Returns the start of a RERR of n destinations.
unfoldable pub error_start : ℕ → List ℕ
error_start n = frame_start all_ones Rerr n (rerr_numbers own_error)

-- Returns what is begun before a destination that comes after k others.
unfoldable pub begun_before : ℕ → List ℕ
begun_before k = cond (eqb (k % most Rerr) 0) (error_start (most Rerr)) []

-- Returns the octets of destinations that come after k others, before the last RERR has its count.
unfoldable pub begun_after : ℕ → List LostDestination → List ℕ
begun_after k [] = []
begun_after k (x ∷ entries) = begun_before k ++ (lost_octets x ++ begun_after (suc k) entries)

-- Returns how many destinations fill the RERRs that k destinations take.
abbrev pub filled_by : ℕ → ℕ
filled_by k = most Rerr * errors_taken k

-- Returns the output s with the count of its last RERR. The RERRs for k destinations stand in s from place `at` on.
unfoldable pub closed : List ℕ → ℕ → ℕ → List ℕ
closed s at k =
    cond (eqb (k % most Rerr) 0) s (overwrite s (at + octets_for (most Rerr) * (k / most Rerr)) (error_start (k % most Rerr)))
