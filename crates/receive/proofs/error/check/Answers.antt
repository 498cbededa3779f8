-- `receive::error::check` meets its contract, by the checks of the list and then of the state.
use Rattle.rules.specs.Receive.{field_checks, is_low_ttl_reply, judging, matches_nothing}
use Rattle.calls.proofs.Checks.{checking}
use Rattle.receive.proofs.Judging.{error_address, error_list}
use Rattle.receive.proofs.error.check.Goals as goal

pub returns-then-has_forbidden : goal.returns-then-has_forbidden
unfolding judging field_checks is_low_ttl_reply matches_nothing
returns-then-has_forbidden c = search (checking, error_address) depth 40

pub returns-then-has_duplicate : goal.returns-then-has_duplicate
unfolding judging field_checks is_low_ttl_reply matches_nothing
returns-then-has_duplicate c = search (checking, error_address, error_list) depth 40

pub returns : goal.returns
unfolding judging field_checks is_low_ttl_reply matches_nothing
returns c = search (checking, error_address, error_list) depth 40
