-- `bench_text::put_line` meets its contract: it writes three numbers, each with the octet after it.
use Rattle.std.proofs.Common.{rules}
use Rattle.bench_text.proofs.Printing.{line_end, line_put}
use Rattle.bench_text.proofs.put_line.Goals as goal

pub returns-clause-value : goal.returns-clause-value
returns-clause-value c = (search line_end, search rules)

pub returns-clause-text_after : goal.returns-clause-text_after
returns-clause-text_after c = search line_put
