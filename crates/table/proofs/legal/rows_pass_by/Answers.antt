use Rattle.std.proofs.Common.{rules}
use borrow.Author.Tests.{not-false}
use Rattle.layout.proofs.Marks.{mark_in, marked_none}
use Rattle.table.proofs.MarkedRows.{destination_marked, passes_by}
use Rattle.table.proofs.Places.{every_none, every_more, every_stops, every_ended}
use Rattle.table.proofs.legal.rows_pass_by.Goals as goal

pub loop-i-init : goal.loop-i-init
loop-i-init c = search (rules, marked_none, every_none)

pub bounds-seen-h : goal.bounds-seen-h
bounds-seen-h c = search mark_in

pub returns-then-not-passes_by : goal.returns-then-not-passes_by
returns-then-not-passes_by c = search (every_stops, passes_by)

pub bounds-seen-h-in-loop-i : goal.bounds-seen-h-in-loop-i
bounds-seen-h-in-loop-i c = search mark_in

pub loop-i-preserved : goal.loop-i-preserved
loop-i-preserved c = search (rules, destination_marked, every_more, passes_by, not-false)

pub returns : goal.returns
returns c = search every_ended
