-- Laws of Lengths and counts: their bounds for each type, and that each fits its octet.
use Prim.Native.Nat.{ℕ, ◌<◌, ◌≤◌}
use mathlib.Core.Path.{◌≡◌}
use mathlib.Core.Bool.{Bool, true, ◌&&◌}
use lib.Dec.{leb}
use native.Mathlib.Omega.{arith}
use borrow.Author.Tests.{leb-true}
use Rattle.octets.proofs.Tests.{both}
use Rattle.element.specs.declared.Kind.{Kind}
use Rattle.element.specs.declared.Kind.TheVariants.{Rann, Rreq, Rrep, Rerr}
use Rattle.element.specs.Layout.{id_of, length_with, fewest, most, count_ok}

-- ---- how many entries an element may have, and how long it then is

pub count_range : (k : Kind) (n : ℕ) → count_ok k n ≡ true → (fewest k ≤ n) × (n ≤ most k)
count_range k n e =
    let b = both (leb (fewest k) n) (leb n (most k)) e in
    (leb-true (fewest k) n b.0, leb-true n (most k) b.1)

-- In the code, a branch has found the type j of k.
module _ (k j : Kind) (ke : k ≡ j) (n : ℕ) (b : Bool) where
  pub count_is : b ≡ (leb (fewest j) n && leb n (most j)) → b ≡ count_ok k n
  count_is e = rw ke e

abbrev pub shortest : Kind → ℕ
shortest Rann = 21
shortest Rreq = 37
shortest Rrep = 32
shortest Rerr = 12

abbrev pub longest : Kind → ℕ
longest Rann = 21
longest Rreq = 246
longest Rrep = 252
longest Rerr = 252

pub length_range : (k : Kind) (n : ℕ) → count_ok k n ≡ true → (shortest k ≤ length_with k n) × (length_with k n ≤ longest k)
length_range Rann n e = (omega arith, omega arith)
length_range Rreq n e = let r = count_range Rreq n e in (omega arith, omega arith)
length_range Rrep n e = let r = count_range Rrep n e in (omega arith, omega arith)
length_range Rerr n e = let r = count_range Rerr n e in (omega arith, omega arith)

-- ID, Length and N each fit an octet.
pub id_octet : (k : Kind) → id_of k < 256
id_octet Rann = omega arith
id_octet Rreq = omega arith
id_octet Rrep = omega arith
id_octet Rerr = omega arith

pub length_octet : (k : Kind) (n : ℕ) → count_ok k n ≡ true → length_with k n < 256
length_octet Rann n e = omega arith
length_octet Rreq n e = let r = length_range Rreq n e in omega arith
length_octet Rrep n e = let r = length_range Rrep n e in omega arith
length_octet Rerr n e = let r = length_range Rerr n e in omega arith

pub count_octet : (k : Kind) (n : ℕ) → count_ok k n ≡ true → n < 256
count_octet Rann n e = let r = count_range Rann n e in omega arith
count_octet Rreq n e = let r = count_range Rreq n e in omega arith
count_octet Rrep n e = let r = count_range Rrep n e in omega arith
count_octet Rerr n e = let r = count_range Rerr n e in omega arith

-- An element with entries is no shorter than an element without entries.
pub least_length : (k : Kind) (n : ℕ) → length_with k 0 ≤ length_with k n
least_length Rann n = omega arith
least_length Rreq n = omega arith
least_length Rrep n = omega arith
least_length Rerr n = omega arith
