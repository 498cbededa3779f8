-- `ask::check` meets its contract, by one check of the list after another.
use Rattle.std.proofs.lemmas.Result.{err_from_is_err_and}
use Rattle.calls.proofs.Checks.{passes_1, checking, refused_first}
use Rattle.rules.specs.Originate.{asking}
use Rattle.ask.proofs.Asked.{items_passed, own_named}
use Rattle.ask.proofs.check.Goals as goal

pub returns-then-not-is_sized : goal.returns-then-not-is_sized
unfolding asking
returns-then-not-is_sized c = search checking depth 40

pub returns-then-output-lt-LEAST_OUTPUT : goal.returns-then-output-lt-LEAST_OUTPUT
unfolding asking
returns-then-output-lt-LEAST_OUTPUT c = search checking depth 40

pub returns-in_err-check_items : goal.returns-in_err-check_items
unfolding asking
returns-in_err-check_items c =
    let refused = c.in_err-check_items.was in let p = err_from_is_err_and c.from_residual.result c.from_residual.ensures.1 in
    rw (p.1, p.2) (search (checking, refused_first) depth 40)

pub returns-then-lifetime-eq0 : goal.returns-then-lifetime-eq0
unfolding asking
returns-then-lifetime-eq0 c = let ok = c.in_ok-check_items.was in search (checking, items_passed) depth 40

pub is_table-requires : goal.is_table-requires
unfolding asking
is_table-requires c = search passes_1

pub returns-then-not-is_table : goal.returns-then-not-is_table
unfolding asking
returns-then-not-is_table c = let ok = c.in_ok-check_items.was in search (checking, items_passed) depth 40

pub read_head-requires : goal.read_head-requires
unfolding asking
read_head-requires c = search passes_1

pub returns-then-contains : goal.returns-then-contains
unfolding asking
returns-then-contains c = let ok = c.in_ok-check_items.was in search (checking, items_passed, own_named) depth 40

pub returns : goal.returns
unfolding asking
returns c = let ok = c.in_ok-check_items.was in search (checking, items_passed, own_named) depth 40
