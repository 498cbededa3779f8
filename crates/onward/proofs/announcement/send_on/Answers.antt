-- `onward::announcement::send_on` meets its contract: it writes no frame or one, by the TTL.
use Rattle.onward.proofs.Going.{announcement_none, announcement_unwritten, announcement_counted, announcement_written}
use Rattle.onward.proofs.announcement.send_on.Goals as goal

pub returns-then-p-lt2-clause-value : goal.returns-then-p-lt2-clause-value
returns-then-p-lt2-clause-value c = search announcement_none

pub returns-then-p-lt2-clause-output_after : goal.returns-then-p-lt2-clause-output_after
returns-then-p-lt2-clause-output_after c = search announcement_unwritten

pub returns-clause-value : goal.returns-clause-value
returns-clause-value c = search announcement_counted

pub returns-clause-output_after : goal.returns-clause-output_after
returns-clause-output_after c = search announcement_written
