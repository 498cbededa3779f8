-- `breaking::break_neighbour::check` meets its contract, by the checks of the operands and then of the state.
use Rattle.std.proofs.lemmas.Result.{err_from_is_err_and}
use Rattle.rules.specs.Break.{breaking}
use Rattle.calls.proofs.Checks.{refused_first, passed_first, part_last}
use Rattle.calls.proofs.Neighbours.{operands_table_sized}
use Rattle.breaking.proofs.break_neighbour.check.Goals as goal

pub returns-in_err-check_operands : goal.returns-in_err-check_operands
unfolding breaking
returns-in_err-check_operands c =
    let refused = c.in_err-check_operands.was in let p = err_from_is_err_and c.from_residual.result c.from_residual.ensures.1 in
    rw (p.1, p.2) (search refused_first)

pub check_state-requires : goal.check_state-requires
unfolding breaking
check_state-requires c = let ok = c.in_ok-check_operands.was in search operands_table_sized

pub returns : goal.returns
unfolding breaking
returns c = let ok = c.in_ok-check_operands.was in search (passed_first, part_last)
