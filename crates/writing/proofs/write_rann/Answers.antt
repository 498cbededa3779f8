-- `writing::write_rann` meets its contract: it writes its numbers one after another.
use Rattle.std.proofs.Common.{rules}
use Rattle.writing.proofs.Written.{rann_written}
use Rattle.writing.proofs.write_rann.Goals as goal

pub returns : goal.returns
returns c = search (rules, rann_written)
