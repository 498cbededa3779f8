-- The theorems about the rules of `docs/PROTOCOL.md` and about its bench. `specs/Statements.antt` has the statements.
use Rattle.std.specs.Prelude.{Err, Ok}
use Prim.Native.Nat.{ℕ}
use mathlib.Core.Path.{◌≡◌, refl, sym, ap, ◌∙◌}
use mathlib.Core.List.{List, map, flat_map}
use lib.ListN.{length}
use Rattle.table.proofs.WellFormed.{true_not_false, false_of, legal_is}
use Rattle.element.specs.Entries.{All}
use Rattle.element.proofs.ReadBack.{passes_6, passes_7, passes_8}
use Rattle.rules.specs.Decision.{Decision}
use Rattle.rules.specs.Exit.{Frame, Effect, at_exit, frames_in, frames_at, element_in, read_frame}
use Rattle.rules.specs.Receive.{is_stale, receive}
use Rattle.rules.specs.Break.{broken_off, break_neighbour}
use Rattle.rules.proofs.Rulings.{listed}
use Rattle.rules.specs.Calls.{receives, makes, asks, announces, requests_as_root, breaks, decision}
use Rattle.rules.proofs.Alls.{all_map}
use Rattle.rules.proofs.Sending.{FrameFits}
use Rattle.rules.proofs.CallsKeep.{Kept, call_kept}
use Rattle.rules.proofs.Unknown.{just_steps, keeps_mark, call_marks}
use Rattle.rules.proofs.Room.{call_room, output_room}
use Rattle.rules.proofs.Output.{written, element_in_lem, all_read, together, cut_output, first_octets}
use Rattle.rules.proofs.Hops.{walk_hops}
use Rattle.rules.proofs.StaysTable.{fresh_stays, forget_stays}
use Rattle.bench_rules.proofs.InParts.{obeyed_in_parts}
use Rattle.theorems.specs.Statements.{EdgesHold, ErrorsShutOut, FurtherCasesHold, UnknownJustSteps, KeepsTheMark, OnlyZeroIsUnknown, StaysTable, FreshIsTable, ForgetStaysTable, HasRoom, FramesInOutput, ReadsAsElement, ReadsBack, HopsAtMost, LoopFree, NeverTooLong, NotVacuous, Sharp, ElseTheRules, NeedsExclusions, NeedsPremise, ObeysInParts, PrintsWorkedCase}
use Rattle.theorems.specs.WrongRules.{ruled_by}
use Rattle.theorems.specs.Runs.{end_of, way, outside, outside_loops}
use Rattle.theorems.proofs.AllEdges.{all_edges, all_shut_out, all_further}
use Rattle.theorems.proofs.Computed.{runs_as_worked, wrong_rules_loop, left_out_loop, outside_points_fit, outside_events_fit, outside_loops_lem}
use Rattle.theorems.proofs.Printed.{printed_as_worked}
use Rattle.theorems.proofs.LoopFree
use Rattle.theorems.proofs.NeverTooLong

pub p1_to_p8 : EdgesHold
p1_to_p8 = all_edges

pub errors_shut_out : ErrorsShutOut
errors_shut_out = all_shut_out

pub further_cases : FurtherCasesHold
further_cases = all_further

pub unknown_just_steps : UnknownJustSteps
unfolding decision
unknown_just_steps l octets room a s fit = just_steps l octets room a s fit.0 fit.1

pub keeps_the_mark : KeepsTheMark
keeps_the_mark = keeps_mark

pub only_0_is_unknown : OnlyZeroIsUnknown
only_0_is_unknown = call_marks

pub stays_a_table : StaysTable
stays_a_table l octets room call fit e is =
    let k : Kept l.table e = call_kept l octets room call fit e is in
    (k.leaves.whole.octets, legal_is e.lent.table k.leaves.whole.legal, k.leaves.length)

pub fresh_is_a_table : FreshIsTable
fresh_is_a_table = fresh_stays

pub forget_stays_a_table : ForgetStaysTable
forget_stays_a_table = forget_stays

pub has_room : HasRoom
has_room = call_room

pub frames_in_output : FramesInOutput
unfolding at_exit
frames_in_output l octets output call fit e is x ends =
    let k : Kept l.table e = call_kept l octets (length output) call fit e is in
    let room = output_room l octets output call fit e is in
    let cut = cut_output output e.frames room in
    rw (← ends, is) (
      ap (map read_frame) cut ∙ all_read e.frames k.frames,
      ap (flat_map (λ (s : List ℕ). s)) cut ∙ together e.frames ∙ sym (first_octets output e.frames room),
    )

reads_written : (f : Frame) → FrameFits f → ReadsAsElement (element_in (written f))
reads_written f fits =
    rw (element_in_lem f) (record {
      passes_6 = passes_6 f.element;
      passes_7 = passes_7 f.element;
      passes_8 = passes_8 f.element fits.element.count;
    })

pub reads_back : ReadsBack
unfolding at_exit frames_in All
reads_back l octets output call fit x ends = by (decision l (length output) call) refl ends
  where
    by : (d : Decision Effect) → decision l (length output) call ≡ d → at_exit l output d ≡ x
        → All (λ (s : List ℕ). ReadsAsElement (element_in s)) (frames_at x)
    by (Err n) is ends = rw (← ends) tt
    by (Ok e) is ends =
        rw (← ends, cut_output output e.frames (output_room l octets output call fit e is))
        (all_map (λ (s : List ℕ). ReadsAsElement (element_in s)) FrameFits written reads_written e.frames
        (call_kept l octets (length output) call fit e is).frames)

pub hops_at_most : HopsAtMost
hops_at_most = walk_hops

pub loop_free : LoopFree
loop_free points _ events fit d base small within a hops = LoopFree.loop_free d base small points events fit within hops a

pub never_too_long : NeverTooLong
never_too_long points _ events fit d base small within = NeverTooLong.never_too_long d base small points events fit within

pub not_vacuous : NotVacuous
not_vacuous = runs_as_worked

pub sharp : Sharp
sharp = wrong_rules_loop

pub else_the_rules : ElseTheRules
unfolding listed ruled_by decision receive is_stale break_neighbour broken_off
else_the_rules l room (receives a s) = refl
else_the_rules l room (makes (asks lifetime items)) = refl
else_the_rules l room (makes (announces flags lifetime)) = refl
else_the_rules l room (makes (requests_as_root flags lifetime)) = refl
else_the_rules l room (makes (breaks c neighbour)) = refl

pub needs_its_exclusions : NeedsExclusions
needs_its_exclusions = left_out_loop

pub needs_its_premise : NeedsPremise
unfolding outside_loops way end_of
needs_its_premise = (
  outside_points_fit,
  outside_events_fit,
  outside_loops_lem,
  λ base small. false_of _ (λ within.
      let no_loop = LoopFree.loop_free outside.destination base small outside.points outside.events outside_events_fit within in
      true_not_false outside_loops_lem (no_loop _ _)),
)

pub obeys_in_parts : ObeysInParts
obeys_in_parts = obeyed_in_parts

pub prints_the_worked_case : PrintsWorkedCase
prints_the_worked_case = printed_as_worked
