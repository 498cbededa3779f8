-- `table_calls::forget::row_to_free` meets its contract: each return is a case of `forget`.
use Rattle.std.proofs.Common.{rules}
use Rattle.calls.proofs.Checks.{passes_1}
use Rattle.table_calls.proofs.Cases.{forget_1, forget_9, forget_21, forget_found, found_inside}
use Rattle.table_calls.proofs.forget.row_to_free.Goals as goal

pub returns-then-not-is_sized-clause-result_value : goal.returns-then-not-is_sized-clause-result_value
returns-then-not-is_sized-clause-result_value c = search forget_1

pub returns-then-not-is_individual-clause-result_value : goal.returns-then-not-is_individual-clause-result_value
returns-then-not-is_individual-clause-result_value c = search forget_9

pub is_table-requires : goal.is_table-requires
is_table-requires c = search passes_1

pub returns-then-not-is_table-clause-result_value : goal.returns-then-not-is_table-clause-result_value
returns-then-not-is_table-clause-result_value c = search forget_21

pub returns-clause-result_value : goal.returns-clause-result_value
returns-clause-result_value c = search (forget_found, rules)

pub returns-clause-inside : goal.returns-clause-inside
returns-clause-inside c = search (found_inside c.args.table.now c.args.destination, rules)
