use Rattle.std.proofs.Common.{rules}
use Rattle.octets.proofs.Laws.{number_more, number_ended}
use Rattle.octets.proofs.write_number.Goals as goal

pub loop-j-preserved : goal.loop-j-preserved
loop-j-preserved c = search (rules, number_more)

pub returns : goal.returns
returns c = search number_ended
