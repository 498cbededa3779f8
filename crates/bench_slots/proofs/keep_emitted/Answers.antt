-- `bench_slots::keep_emitted` meets its contract: no frame is kept, or all frames are.
use Rattle.std.proofs.Common.{arith, subst, sym}
use Rattle.octets.specs.LittleEndian.{Octets}
use Rattle.bench_slots.proofs.Sent.{put_octets}
use Rattle.bench_slots.proofs.keep_emitted.Goals as goal

pub returns-then-before-n-gt-MOST_FRAMES-clause-octets : goal.returns-then-before-n-gt-MOST_FRAMES-clause-octets
unfolding Octets
returns-then-before-n-gt-MOST_FRAMES-clause-octets c = c.fits-slots

pub returns-clause-octets : goal.returns-clause-octets
unfolding Octets
returns-clause-octets c =
    subst Octets (sym c.keep_frames.ensures)
    (put_octets c.args.sender (omega (arith, c.ranges.sender)) c.args.n c.args.output.now (λ i. omega (arith, c.type_inv.output i))
    c.args.slots.now c.args.before c.fits-slots)
