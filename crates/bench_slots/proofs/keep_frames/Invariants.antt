-- `bench_slots::keep_frames` meets its contract. Invariant: keeping the remaining frames would give the slots of the contract.
use Rattle.std.proofs.Common.{◌+◌, ◌-◌, ◌≤◌, ◌≡◌, length, drop}
use Rattle.rules.specs.Exit.{frames_in}
use Rattle.bench_slots.specs.Slots.{put_frames, Holds}
use Rattle.bench_slots.proofs.keep_frames.Given as goal

abbrev pub invariant-loop-i : goal.invariant-loop-i
invariant-loop-i l =
    (put_frames l.slots l.sender (l.first + l.i) (frames_in (l.n - l.i) (drop l.at l.output))
    ≡ put_frames l.initial.slots l.sender l.first (frames_in l.n l.output))
    × Holds (l.n - l.i) (drop l.at l.output) × (l.at ≤ length l.output) × (length l.slots ≡ length l.initial.slots)
