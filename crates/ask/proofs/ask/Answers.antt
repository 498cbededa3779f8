-- `ask::ask` meets its contract: its check decides, and `send` does what an accepted ask does.
use Rattle.std.proofs.Common.{rules}
use Rattle.ask.proofs.Asked.{ask_table_sized, ask_output_long, items_some, items_few, ask_refused, ask_accepted}
use Rattle.ask.proofs.ask.Goals as goal

pub send-requires-clause-sized : goal.send-requires-clause-sized
send-requires-clause-sized c = search (rules, ask_table_sized)

pub send-requires-clause-least_output_in_bounds : goal.send-requires-clause-least_output_in_bounds
send-requires-clause-least_output_in_bounds c = search (rules, ask_output_long)

pub send-requires-clause-in_bounds : goal.send-requires-clause-in_bounds
send-requires-clause-in_bounds c = search (rules, items_some)

pub send-requires-clause-len_bound : goal.send-requires-clause-len_bound
send-requires-clause-len_bound c = search (rules, items_few)

pub returns : goal.returns
returns c = search (rules, ask_accepted)

pub returns-in_err-check : goal.returns-in_err-check
returns-in_err-check c = search (rules, ask_refused)
