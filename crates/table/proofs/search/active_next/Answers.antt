-- `table::search::active_next` meets its contract: each return is a case of `active_next`.
use Rattle.table.proofs.Cases.{found_within, next_absent, next_inactive, next_active}
use Rattle.table.proofs.search.active_next.Goals as goal

pub returns-in_err-i : goal.returns-in_err-i
returns-in_err-i c = let absent = c.in_err-i.was in rw c.from_residual.ensures (search next_absent)

pub read_row-r-requires : goal.read_row-r-requires
read_row-r-requires c = let at_i = c.in_ok-i.was in search found_within

pub returns-then-not-is_active : goal.returns-then-not-is_active
returns-then-not-is_active c = let at_i = c.in_ok-i.was in search next_inactive

pub returns : goal.returns
returns c = let at_i = c.in_ok-i.was in search next_active
