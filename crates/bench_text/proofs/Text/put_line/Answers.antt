-- `bench_text::Text::put_line` meets its contract: it adds the line that the function `put_line` writes.
use Rattle.bench_text.proofs.Printing.{line_added}
use Rattle.bench_text.proofs.Text.put_line.Goals as goal

pub returns-clause-text_after : goal.returns-clause-text_after
returns-clause-text_after c = search line_added
