-- `table_calls::next_hop::next_hop` meets its contract: each return is a case of `next_hop`.
use Rattle.calls.proofs.Checks.{passes_1}
use Rattle.table_calls.proofs.Cases.{hop_1, hop_3, hop_9, hop_21, hop_22, hop_found}
use Rattle.table_calls.proofs.next_hop.next_hop.Goals as goal

pub returns-then-not-is_sized : goal.returns-then-not-is_sized
returns-then-not-is_sized c = search hop_1

pub returns-then-clock-gt-MAX_CLOCK : goal.returns-then-clock-gt-MAX_CLOCK
returns-then-clock-gt-MAX_CLOCK c = search hop_3

pub returns-then-not-is_individual : goal.returns-then-not-is_individual
returns-then-not-is_individual c = search hop_9

pub is_table-requires : goal.is_table-requires
is_table-requires c = search passes_1

pub returns-then-not-is_table : goal.returns-then-not-is_table
returns-then-not-is_table c = search hop_21

pub read_head-requires : goal.read_head-requires
read_head-requires c = search passes_1

pub returns-then-clock-read_head : goal.returns-then-clock-read_head
returns-then-clock-read_head c = search hop_22

pub returns : goal.returns
returns c = search hop_found
