use Rattle.std.proofs.Common.{rules}
use Rattle.breaking.proofs.Broken.{reporting_more, all_counted, all_written}
use Rattle.breaking.proofs.report.report_rows.Goals as goal

pub loop-i-preserved : goal.loop-i-preserved
loop-i-preserved c = search (rules, reporting_more)

pub returns-clause-value : goal.returns-clause-value
returns-clause-value c = search all_counted

pub returns-clause-output_after : goal.returns-clause-output_after
returns-clause-output_after c = search all_written
