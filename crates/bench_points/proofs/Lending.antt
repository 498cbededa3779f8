-- The table of a point is lent to a call as a part of all tables, and put back.
use Prim.Native.Nat.{ℕ, ◌+◌, ◌-◌, ◌*◌}
use mathlib.Core.Path.{◌≡◌, refl, sym, subst}
use mathlib.Core.List.{List}
use lib.ListN.{take, drop}
use native.Mathlib.Omega.{arith}
use borrow.Rule.Slice.PartMut.{put_mid}
use Rattle.octets.specs.LittleEndian.{Octets}
use Rattle.rules.specs.Walk.{table_at}
use Rattle.walk.proofs.Tables.{piece_is}
use Rattle.bench_rules.specs.Bench.{with_table_at}
use Rattle.bench_rules.proofs.Sound.{with_table_octets}

pub lent_table : (tables : List ℕ) (p : ℕ) → take (544 * p + 544 - 544 * p) (drop (544 * p) tables) ≡ table_at tables 544 p
lent_table tables p = piece_is tables 544 p (544 * p) refl

pub put_back : (tables u : List ℕ) (p : ℕ) → put_mid (544 * p) (544 * p + 544 - 544 * p) tables u ≡ with_table_at tables p u
unfolding with_table_at
put_back tables u p = let n : 544 * p + 544 - 544 * p ≡ 544 = omega arith in rw n

-- All tables are octets, whatever octets the call leaves in the table of a point.
pub put_octets : (tables u : List ℕ) (p : ℕ) → Octets tables → Octets u → Octets (put_mid (544 * p) (544 * p + 544 - 544 * p) tables u)
put_octets tables u p o v = subst Octets (sym (put_back tables u p)) (with_table_octets tables p u o v)
