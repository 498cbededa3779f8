-- `originate::root_request::root_request` meets its contract: its check decides, and `send` does what an accepted root request
-- does.
use Rattle.std.proofs.Common.{rules}
use Rattle.calls.proofs.Checks.{table_sized, output_long}
use Rattle.originate.proofs.Originated.{root_refused, root_accepted}
use Rattle.originate.proofs.root_request.root_request.Goals as goal

pub send-requires : goal.send-requires
send-requires c = search (rules, table_sized, output_long)

pub returns-in_err-check : goal.returns-in_err-check
returns-in_err-check c = search (rules, root_refused)

pub returns : goal.returns
returns c = search (rules, root_accepted)
