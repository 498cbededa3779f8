-- `breaking::report::report` meets its contract: what is written at the start of the part from `at` on stands at `at`.
use Rattle.breaking.proofs.Broken.{errors_placed, lost_few}
use Rattle.breaking.proofs.report.report.Goals as goal

pub returns-clause-lost_le_most_rows : goal.returns-clause-lost_le_most_rows
returns-clause-lost_le_most_rows c = search lost_few

pub returns-clause-output_after : goal.returns-clause-output_after
returns-clause-output_after c = search errors_placed
