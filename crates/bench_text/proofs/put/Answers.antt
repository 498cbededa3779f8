-- `bench_text::put` meets its contract: it writes one octet.
use Rattle.bench_text.proofs.Printing.{octet_put}
use Rattle.bench_text.proofs.put.Goals as goal

pub returns-clause-text_after : goal.returns-clause-text_after
returns-clause-text_after c = search octet_put
