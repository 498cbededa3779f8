use Rattle.std.proofs.Common.{refl, rules}
use Rattle.element.specs.Element.{numbered_numbers}
use Rattle.writing.proofs.Written.{entries_ended}
use Rattle.probe.proofs.Entries.{entry_more}
use Rattle.probe.proofs.numbers.put_numbered.Goals as goal

pub loop-i-preserved : goal.loop-i-preserved
loop-i-preserved c = search (rules, entry_more numbered_numbers 2 (λ x. refl))

pub returns : goal.returns
returns c = search entries_ended
