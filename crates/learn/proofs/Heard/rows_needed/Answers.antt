-- `learn::Heard::rows_needed` meets its contract: it counts for one address, or for two.
use Rattle.learn.proofs.NewRows.{new_rows_lem, one_address, two_addresses}
use Rattle.learn.proofs.Heard.rows_needed.Goals as goal

pub returns-then-eq : goal.returns-then-eq
returns-then-eq c = search (one_address, new_rows_lem)

pub returns : goal.returns
returns c = search (two_addresses, new_rows_lem)
