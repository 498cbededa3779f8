-- `breaking::report::report_row` meets its contract: the destination is added, or nothing changes.
use Rattle.breaking.proofs.Broken.{none_counted, none_added, one_counted, one_added}
use Rattle.breaking.proofs.report.report_row.Goals as goal

pub returns-then-not-breaks-clause-value : goal.returns-then-not-breaks-clause-value
returns-then-not-breaks-clause-value c = search none_counted

pub returns-then-not-breaks-clause-output_after : goal.returns-then-not-breaks-clause-output_after
returns-then-not-breaks-clause-output_after c = search none_added

pub returns-clause-value : goal.returns-clause-value
returns-clause-value c = search one_counted

pub returns-clause-output_after : goal.returns-clause-output_after
returns-clause-output_after c = search one_added
