-- `bench_text::put_number` meets its contract: it writes the digits, and the octet after them.
use Rattle.std.proofs.Common.{rules}
use Rattle.bench_text.proofs.Printing.{then_end, then_put}
use Rattle.bench_text.proofs.put_number.Goals as goal

pub returns-clause-value : goal.returns-clause-value
returns-clause-value c = (search then_end, search rules)

pub returns-clause-text_after : goal.returns-clause-text_after
returns-clause-text_after c = search then_put
