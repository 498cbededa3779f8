-- `receive::receive` meets its contract, by the first checks and by what is read.
use Rattle.std.proofs.lemmas.Result.{err_from_is_err_and}
use Rattle.receive.proofs.Calling.{arrival_refused, arrival_accepted, arrival_table_sized, arrival_output_long, arrival_clock}
use Rattle.receive.proofs.receive.Goals as goal

pub receive_element-requires-clause-sized : goal.receive_element-requires-clause-sized
receive_element-requires-clause-sized c = let ok = c.in_ok-check_arrival.was in search arrival_table_sized

pub receive_element-requires-clause-least_output_in_bounds : goal.receive_element-requires-clause-least_output_in_bounds
receive_element-requires-clause-least_output_in_bounds c = let ok = c.in_ok-check_arrival.was in search arrival_output_long

pub receive_element-requires-clause-clock_le_max_clock : goal.receive_element-requires-clause-clock_le_max_clock
receive_element-requires-clause-clock_le_max_clock c = let ok = c.in_ok-check_arrival.was in search arrival_clock

pub returns : goal.returns
returns c = let ok = c.in_ok-check_arrival.was in search arrival_accepted

pub returns-in_err-check_arrival : goal.returns-in_err-check_arrival
returns-in_err-check_arrival c =
    let refused = c.in_err-check_arrival.was in let p = err_from_is_err_and c.from_residual.result c.from_residual.ensures.1 in
    rw (p.1, p.2) (search arrival_refused)
