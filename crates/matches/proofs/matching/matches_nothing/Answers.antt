use Rattle.std.proofs.Common.{rules}
use Rattle.rules.proofs.AnyOf.{any_start}
use Rattle.matches.proofs.LostBy.{this_matches, this_does_not, none_matches}
use Rattle.matches.proofs.matching.matches_nothing.Goals as goal

pub loop-i-init : goal.loop-i-init
loop-i-init c = search (rules, any_start)

pub returns-then-is_match : goal.returns-then-is_match
returns-then-is_match c = search this_matches

pub loop-i-preserved : goal.loop-i-preserved
loop-i-preserved c = search (rules, this_does_not)

pub returns : goal.returns
returns c = search none_matches
