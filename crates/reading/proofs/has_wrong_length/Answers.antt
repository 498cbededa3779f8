-- `reading::has_wrong_length` meets its contract, for both sides of the test.
use Rattle.std.proofs.Common.{rules}
use Rattle.element.specs.Octets.{wrong_length}
use Rattle.reading.proofs.has_wrong_length.Goals as goal

pub returns-then-element-lt2 : goal.returns-then-element-lt2
unfolding wrong_length
returns-then-element-lt2 c = search rules

pub returns-else-element-lt2 : goal.returns-else-element-lt2
unfolding wrong_length
returns-else-element-lt2 c = search rules
