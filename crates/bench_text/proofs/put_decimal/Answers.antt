-- `bench_text::put_decimal` meets its contract: it writes the digits of the number, at most 20.
use Rattle.std.proofs.Common.{rules}
use Rattle.bench_text.proofs.Printing.{digits_length, digits_end, digits_room, digits_fit, digits_put}
use Rattle.bench_text.proofs.put_decimal.Goals as goal

pub write_octets-requires : goal.write_octets-requires
write_octets-requires c = search digits_room

pub overflow_add-result : goal.overflow_add-result
overflow_add-result c = search (rules, digits_fit)

pub returns-clause-value : goal.returns-clause-value
returns-clause-value c = (search digits_length, search digits_end)

pub returns-clause-text_after : goal.returns-clause-text_after
returns-clause-text_after c = search digits_put
