-- `ask::write_request` meets its contract: it writes the start, and then the destinations.
use Rattle.std.proofs.Common.{rules}
use Rattle.ask.proofs.Asked.{asked_written}
use Rattle.ask.proofs.write_request.Goals as goal

pub returns : goal.returns
returns c = search (rules, asked_written)
