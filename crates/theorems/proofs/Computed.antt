-- The runs of `Runs.antt` pass their tests: the definitions compute it.
use Rattle.rules.specs.Lists.{all}
use mathlib.Core.Path.{◌≡◌, refl}
use mathlib.Core.Bool.{true}
use mathlib.Core.List.{◌++◌}
use Rattle.rules.specs.Calls.{decision}
use Rattle.rules.proofs.Computing.{computing}
use Rattle.theorems.specs.Mesh.{start, box_of, with_box, call_of, walk_over, point_fits, points_fit, own_call_fits, action_fits, event_fits, sent_by, after_call, happen, run, throughout, next_at, met}
use Rattle.theorems.specs.Premise.{beside, held, held_by_all, carried, numbers_for, is_within, all_within}
use Rattle.theorems.specs.WrongRules.{ruled_by}
use Rattle.theorems.specs.Runs.{way, after, end_of, as_demanded, goes_round, held_in, lines_from, lines, agree, worked, went_round, found_unheard_of, loops, counterexamples, happen_wider, wider_fits, left_out, outside, outside_loops}

-- Collects the definitions that must unfold for a run to compute.
running : Unit {0}
unfolding computing start box_of with_box call_of walk_over point_fits points_fit own_call_fits action_fits
    sent_by after_call happen run throughout next_at met
    beside held held_by_all carried numbers_for is_within all_within
    ruled_by way after end_of as_demanded goes_round held_in lines_from lines agree worked went_round found_unheard_of counterexamples
    happen_wider wider_fits left_out outside_loops
running = tt

pub runs_as_worked : all (λ b. b) (worked decision ++ went_round decision ++ found_unheard_of decision) ≡ true
unfolding running
runs_as_worked = refl

pub wrong_rules_loop : all loops counterexamples ≡ true
unfolding running
wrong_rules_loop = refl

pub left_out_loop : all (goes_round happen_wider wider_fits) left_out ≡ true
unfolding running
left_out_loop = refl

pub outside_points_fit : points_fit outside.points ≡ true
unfolding running
outside_points_fit = refl

pub outside_events_fit : all event_fits outside.events ≡ true
unfolding running
outside_events_fit = refl

pub outside_loops_lem : outside_loops ≡ true
unfolding running
outside_loops_lem = refl
