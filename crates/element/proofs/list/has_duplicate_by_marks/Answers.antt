use Rattle.std.proofs.Common.{rules}
use Rattle.layout.proofs.Marks.{mark_in}
use Rattle.element.proofs.Marking.{no_duplicate, none_marked, again_found, before_marked, still_once}
use Rattle.element.proofs.list.has_duplicate_by_marks.Goals as goal

pub loop-from-init : goal.loop-from-init
loop-from-init c = search (rules, none_marked, no_duplicate)

pub bounds-seen-h : goal.bounds-seen-h
bounds-seen-h c = search mark_in

pub returns-then-is_again : goal.returns-then-is_again
returns-then-is_again c = search again_found

pub bounds-seen-h-in-loop-from : goal.bounds-seen-h-in-loop-from
bounds-seen-h-in-loop-from c = search mark_in

pub loop-from-preserved : goal.loop-from-preserved
loop-from-preserved c = search (rules, before_marked, still_once)
