-- A bench is sound, by what its type states.
use Prim.Native.Nat.{ℕ, zero, suc, ◌+◌, ◌*◌, ◌<◌}
use mathlib.Core.List.{List}
use lib.ListN.{get_or, drop, length-take}
use native.Mathlib.Omega.{arith}
use Rattle.octets.specs.LittleEndian.{Octets}
use Rattle.octets.proofs.OctetLists.{octets_drop}
use Rattle.element.specs.Entries.{each, All}
use Rattle.element.proofs.Scans.{each_length}
use Rattle.bench_rules.specs.Bench.{KeptFrame, KeptSoundly, Sound}
use Rattle.bench_rules.proofs.Sound.{octets_take}
use Rattle.bench_slots.specs.Slots.{element_of, kept_at}
use Rattle.bench_points.specs.declared.Bench.{Bench}
use Rattle.bench_points.specs.InCode.{bench_of}

all_each : (P : KeptFrame → Type 0) (f : ℕ → KeptFrame) (i n : ℕ) → ((k : ℕ) → k < i + n → P (f k)) → All P (each f i n)
unfolding each All
all_each P f i zero h = tt
all_each P f i (suc n) h = (h i (omega arith), all_each P f (suc i) n (λ k l. h k (omega arith)))

module _ (b : Bench) where
  pub kept_soundly : (k : ℕ) → k < b.frames → KeptSoundly b.points (kept_at b.slots k)
  unfolding element_of Octets
  kept_soundly k l =
      let long : ℕ = 2 + get_or b.slots (264 * k + 8) 0 in
      let rest : List ℕ = drop (264 * k + 7) b.slots in
      record {
        sender = b.sent k l;
        octets = octets_take long rest (octets_drop (264 * k + 7) b.slots b.slot_octets);
        short = omega (arith, b.slot_octets (264 * k + 8), length-take long rest);
      }

  pub is_sound : Sound (bench_of b)
  is_sound =
      record {
        points = b.few_points;
        clock = b.in_time;
        tables = b.table_octets;
        few = omega (arith, b.few_frames, each_length (kept_at b.slots) 0 b.frames);
        frames = all_each (KeptSoundly b.points) (kept_at b.slots) 0 b.frames (λ k l. kept_soundly k (omega arith));
      }
