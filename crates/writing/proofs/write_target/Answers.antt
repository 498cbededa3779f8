-- `writing::write_target` meets its contract: it writes its numbers one after another.
use Rattle.std.proofs.Common.{rules}
use Rattle.writing.proofs.Written.{target_written}
use Rattle.writing.proofs.write_target.Goals as goal

pub returns : goal.returns
returns c = search (rules, target_written)
