-- The bench prints the text of the worked case: the definitions compute it.
use mathlib.Core.Path.{◌≡◌, refl}
use Rattle.rules.proofs.Computing.{computing}
use Rattle.bench_links.specs.Links.{linked}
use Rattle.bench_rules.specs.Text.{digits_of, line_text, fault_text}
use Rattle.bench_rules.specs.Bench.{with_table_at, settled, called}
use Rattle.bench_rules.specs.Commands.{add_point, advance, link, ask_for, announce_self, deliver, break_off, walk_to}
use Rattle.bench_rules.specs.Interpreter.{obeyed, command}
use Rattle.bench_rules.specs.Run.{obey_first, obey_until, text_for}
use Rattle.theorems.specs.WorkedBench.{worked_input, worked_text}

pub printed_as_worked : text_for worked_input ≡ worked_text
unfolding computing linked digits_of line_text fault_text with_table_at settled called add_point advance link ask_for announce_self
    deliver break_off walk_to obeyed command obey_first obey_until text_for worked_input worked_text
printed_as_worked = refl
