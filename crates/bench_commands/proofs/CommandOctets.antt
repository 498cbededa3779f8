-- Laws of the octets of a command, by the cases that the code tests.
use Prim.Native.Nat.{ℕ}
use mathlib.Core.Path.{◌≡◌}
use mathlib.Core.Bool.{true, false}
use mathlib.Core.List.{List}
use lib.Dec.{ltb}
use lib.ListN.{length}
use native.Mathlib.Omega.{arith}
use borrow.Author.Tests.{ne_eqb, le-ltb}
use Rattle.octets.specs.LittleEndian.{number_at}
use Rattle.bench_rules.specs.Interpreter.{length_of, is_cut}
use Rattle.bench_commands.specs.declared.Command.{Command}
use Rattle.bench_commands.specs.Commands.{octet_of}

pub cut_nothing : (s : List ℕ) → length s ≡ 0 → true ≡ is_cut s
unfolding is_cut
cut_nothing s e = rw e

module _ (o : ℕ) (s : List ℕ) (some : length s ≡ 0 → ⊥) (oe : o ≡ number_at 1 s 0) where
  pub known_cut : (c : Command) → (Unit {0} → octet_of c ≡ o) → (n : ℕ) → n ≡ length_of (octet_of c) → ltb (length s) n ≡ is_cut s
  unfolding is_cut
  known_cut c ce n ne = rw (ne_eqb (length s) 0 some, ne, ce tt, oe)

  pub unknown_whole : (Unit {0} → length_of o ≡ 0) → false ≡ is_cut s
  unfolding is_cut
  unknown_whole none = rw (ne_eqb (length s) 0 some, ← oe, none tt, le-ltb (length s) 0 (omega arith))
