-- `bench_text::put_fault` meets its contract: it writes E, a space, the offset and the end of the line.
use Rattle.std.proofs.Common.{rules}
use Rattle.bench_text.proofs.Printing.{fault_end, fault_put}
use Rattle.bench_text.proofs.put_fault.Goals as goal

pub returns-clause-value : goal.returns-clause-value
returns-clause-value c = (search fault_end, search rules)

pub returns-clause-text_after : goal.returns-clause-text_after
returns-clause-text_after c = search fault_put
