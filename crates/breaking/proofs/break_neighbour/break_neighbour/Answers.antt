-- `breaking::break_neighbour::break_neighbour` meets its contract: its check decides, and `break_off` does what an accepted break
-- does. The contract has no `requires`.
use Rattle.std.proofs.Common.{rules}
use Rattle.breaking.proofs.Broken.{break_table_sized, break_output_long, break_refused, break_accepted}
use Rattle.breaking.proofs.break_neighbour.break_neighbour.Goals as goal

pub break_off-requires-clause-sized : goal.break_off-requires-clause-sized
break_off-requires-clause-sized c = search (rules, break_table_sized)

pub break_off-requires-clause-least_output_in_bounds : goal.break_off-requires-clause-least_output_in_bounds
break_off-requires-clause-least_output_in_bounds c = search (rules, break_output_long)

pub returns : goal.returns
returns c = search (rules, break_accepted)

pub returns-in_err-check : goal.returns-in_err-check
returns-in_err-check c = search (rules, break_refused)
