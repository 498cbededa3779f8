use Rattle.std.proofs.Common.{rules}
use Rattle.bench_slots.proofs.Slots.{next_begins, next_ends, next_holds, keep_more, keep_ended}
use Rattle.bench_slots.proofs.keep_frames.Goals as goal

pub frame_length-requires : goal.frame_length-requires
frame_length-requires c = search next_begins

pub slice_bounds-keep_frame-end : goal.slice_bounds-keep_frame-end
slice_bounds-keep_frame-end c = search next_ends

pub loop-i-preserved : goal.loop-i-preserved
loop-i-preserved c = (search keep_more, search next_holds, search next_ends, search rules)

pub returns : goal.returns
returns c = search keep_ended
