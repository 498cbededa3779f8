-- `matches::report::write_error` meets its contract: it writes the matches, and then the start in front of them.
use Rattle.matches.proofs.Listed.{error_few, error_short, error_long, error_written}
use Rattle.matches.proofs.report.write_error.Goals as goal

pub start_rerr-requires-clause-n_bound : goal.start_rerr-requires-clause-n_bound
start_rerr-requires-clause-n_bound c = search error_few

pub returns-clause-upper_bound : goal.returns-clause-upper_bound
returns-clause-upper_bound c = search error_short

pub returns-clause-value : goal.returns-clause-value
returns-clause-value c = search error_long

pub returns-clause-output_after : goal.returns-clause-output_after
returns-clause-output_after c = search error_written
