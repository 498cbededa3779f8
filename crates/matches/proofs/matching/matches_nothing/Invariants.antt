-- `matches::matching::matches_nothing` meets its contract. Invariant: no entry before the current one is a match.
use Rattle.std.proofs.Common.{◌-◌, ◌≡◌}
use Rattle.element.specs.Entries.{each, lost_at}
use Rattle.rules.specs.Errors.{matches}
use Rattle.rules.specs.Lists.{any}
use Rattle.matches.proofs.matching.matches_nothing.Given as goal

abbrev pub invariant-loop-i : goal.invariant-loop-i
invariant-loop-i l =
    any (matches l.table l.a.clock l.a.transmitter) (each (lost_at l.part) l.i (l.n - l.i))
    ≡ any (matches l.table l.a.clock l.a.transmitter) (each (lost_at l.part) 0 l.n)
