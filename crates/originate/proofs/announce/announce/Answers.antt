-- `originate::announce::announce` meets its contract: its check decides, and `send` does what an accepted announcement does.
use Rattle.std.proofs.Common.{rules}
use Rattle.calls.proofs.Checks.{table_sized, output_long}
use Rattle.originate.proofs.Originated.{announce_refused, announce_accepted}
use Rattle.originate.proofs.announce.announce.Goals as goal

pub send-requires : goal.send-requires
send-requires c = search (rules, table_sized, output_long)

pub returns-in_err-check : goal.returns-in_err-check
returns-in_err-check c = search (rules, announce_refused)

pub returns : goal.returns
returns c = search (rules, announce_accepted)
