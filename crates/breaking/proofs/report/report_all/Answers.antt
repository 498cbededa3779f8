-- `breaking::report::report_all` meets its contract: all rows are reported, and the RERRs are closed.
use Rattle.breaking.proofs.Broken.{lost_in_bounds, lost_counted, errors_closed}
use Rattle.breaking.proofs.report.report_all.Goals as goal

pub close-requires : goal.close-requires
close-requires c = search lost_in_bounds

pub returns-clause-value : goal.returns-clause-value
returns-clause-value c = search lost_counted

pub returns-clause-output_after : goal.returns-clause-output_after
returns-clause-output_after c = search errors_closed
