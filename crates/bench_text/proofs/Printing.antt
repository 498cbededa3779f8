-- Laws of numbers as text, and of lines put together from them.
use Prim.Native.Nat.{ℕ, zero, suc, ◌+◌, ◌-◌, ◌*◌, ◌/◌, ◌%◌, ◌^◌, ◌<◌, ◌≤◌}
use mathlib.Core.Path.{◌≡◌, refl, sym, ap, ap₂, ◌∙◌}
use mathlib.Core.Bool.{Bool, true, false}
use mathlib.Core.List.{List, [], ◌∷◌, ◌++◌, append_assoc}
use lib.Dec.{leb}
use lib.ListN.{length, set, take, drop, length-append}
use lib.Seq.{sets-eq, take_at, length-take-le}
use native.Mathlib.Omega.{arith}
use native.Mathlib.Nat.{pow-le-pow_right, pow-suc}
use borrow.Author.Tests.{leb-true, leb-false, lt-ltb, le-ltb}
use Rattle.io.specs.Digits.{last_digits, hex_digit_ascii, IsDigitCount}
use Rattle.octets.specs.LittleEndian.{overwrite}
use Rattle.octets.proofs.OctetLists.{overwrite_append}
use Rattle.bench_rules.specs.Text.{digits_of, decimal, space, newline, letter_e, line_text, fault_text}

-- ---- digits

-- A number of 64 bits has at most 20 digits.
few_digits : (n k : ℕ) → n < 2 ^ 64 → IsDigitCount 10 1 n k → k ≤ 20
few_digits n k small fewest = by (leb k 20) refl
  where
    by : (b : Bool) → leb k 20 ≡ b → k ≤ 20
    by true e = leb-true k 20 e
    by false e =
        let long = leb-false k 20 e in
        let far : 20 ≤ k - 1 = omega arith in
        let some_base : 0 < 10 = omega arith in
        let least : 10 ^ 20 ≤ 10 ^ (k - 1) = pow-le-pow_right some_base far in
        let most = fewest.2 (omega arith) in
        absurd (omega (arith, least, most, small))

last_digit : (n : ℕ) → hex_digit_ascii (n % 10) ≡ 48 + n % 10
last_digit n = let low : n % 10 < 10 = omega arith in rw (lt-ltb (n % 10) 10 low)

-- The fewest digits that can hold a number are its decimal digits.
digits_are : (most k n : ℕ) → k ≤ most → IsDigitCount 10 1 n k → last_digits 10 k n ≡ digits_of most n
unfolding digits_of
digits_are most zero n few fewest = absurd (omega (arith, fewest.0))
digits_are zero (suc k) n few fewest = absurd (omega (arith, few))
digits_are (suc most) (suc zero) n few fewest =
    let small : n < 10 = omega (arith, fewest.1) in
    rw (lt-ltb n 10 small, last_digit n)
digits_are (suc most) (suc (suc k)) n few fewest =
    let less : suc (suc k) - 1 ≡ suc k = omega arith in
    let low : 10 ^ (suc k) ≤ n = rw less at (fewest.2 (omega arith)) in
    rw (le-ltb n 10 (large low), last_digit n)
    (ap (λ (l : List ℕ). l ++ ((48 + n % 10) ∷ [])) (digits_are most (suc k) (n / 10) (omega (arith, few)) (shorter fewest.1 low)))
  where
    large : 10 ^ (suc k) ≤ n → 10 ≤ n
    large low =
        let base : 0 < 10 = omega arith in
        let one : 1 ≤ suc k = omega arith in
        let least : 10 ^ 1 ≤ 10 ^ (suc k) = pow-le-pow_right base one in
        omega (arith, low, least)

    shorter : n < 10 ^ (suc (suc k)) → 10 ^ (suc k) ≤ n → IsDigitCount 10 1 (n / 10) (suc k)
    shorter high low =
        let above : n < 10 ^ (suc k) * 10 = rw (← pow-suc 10 (suc k)) high in
        let below : 10 ^ k * 10 ≤ n = rw (← pow-suc 10 k) low in
        let less : suc k - 1 ≡ k = omega arith in
        (omega arith, omega (arith, above), λ _. rw less (omega (arith, below)))

-- The k digits of n are written at place `at`.
module _ (at n k : ℕ) (small : n < 2 ^ 64) (fewest : IsDigitCount 10 1 n k) where
  pub digits_room : (text : List ℕ) → at + 20 ≤ length text → (ds : List ℕ) → k ≡ length (take k ds) → at + length (take k ds) ≤ length text
  digits_room text l ds e = omega (arith, few_digits n k small fewest)

  pub digits_fit : (text : List ℕ) → at + 20 ≤ length text → length text < 2 ^ 64 → at + k < 2 ^ 64
  digits_fit text l m = omega (arith, few_digits n k small fewest)

  pub digits_end : at + k ≤ at + 20
  digits_end = omega (arith, few_digits n k small fewest)

  module _ (ds : List ℕ) (spelt : take k ds ≡ last_digits 10 k n) where
    as_decimal : take k ds ≡ decimal n
    as_decimal = spelt ∙ digits_are 20 k n (few_digits n k small fewest) fewest

    pub digits_length : k ≡ length (take k ds) → at + k ≡ at + length (decimal n)
    digits_length e = ap (λ (l : ℕ). at + l) (e ∙ ap length as_decimal)

    pub digits_put : (text text' : List ℕ) → text' ≡ overwrite text at (take k ds) → text' ≡ overwrite text at (decimal n)
    digits_put text text' e = e ∙ ap (overwrite text at) as_decimal

-- ---- one text after another

pub octet_put : (text : List ℕ) (at x : ℕ) → set text at x ≡ overwrite text at (x ∷ [])
unfolding overwrite
octet_put text at x = refl

module _ (at mid end : ℕ) (p q : List ℕ) (me : mid ≡ at + length p) (ee : end ≡ mid + length q) where
  pub then_end : end ≡ at + length (p ++ q)
  then_end = omega (arith, length-append p q, me, ee)

  pub then_put : (text t u : List ℕ) → t ≡ overwrite text at p → u ≡ overwrite t mid q → u ≡ overwrite text at (p ++ q)
  then_put text t u te ue = ue ∙ ap₂ (λ (s : List ℕ) (k : ℕ). overwrite s k q) te me ∙ sym (overwrite_append text at p q)

-- A line is three numbers, each with the octet after it.
module _ (at a b end command answer third : ℕ) where
  abbrev first : List ℕ
  first = decimal command ++ space

  abbrev second : List ℕ
  second = decimal answer ++ space

  abbrev last : List ℕ
  last = decimal third ++ newline

  in_three : first ++ (second ++ last) ≡ line_text command answer third
  unfolding line_text
  in_three =
      sym (append_assoc first second last) ∙ ap (λ (l : List ℕ). l ++ last) (sym (append_assoc first (decimal answer) space))
      ∙ sym (append_assoc (first ++ decimal answer ++ space) (decimal third) newline)

  module _ (ae : a ≡ at + length first) (be : b ≡ a + length second) (ee : end ≡ b + length last) where
    pub line_end : end ≡ at + length (line_text command answer third)
    line_end =
        then_end at a end first (second ++ last) ae (then_end a b end second last be ee) ∙ ap (λ (l : List ℕ). at + length l) in_three

    pub line_put : (text t u v : List ℕ) → t ≡ overwrite text at first → u ≡ overwrite t a second → v ≡ overwrite u b last
        → v ≡ overwrite text at (line_text command answer third)
    line_put text t u v te ue ve =
        then_put at a end first (second ++ last) ae (then_end a b end second last be ee) text t v te
        (then_put a b end second last be ee t u v ue ve) ∙ ap (overwrite text at) in_three

-- A fault is E, a space, and a number with the end of the line.
module _ (at a b end offset : ℕ) where
  abbrev number : List ℕ
  number = decimal offset ++ newline

  module _ (ae : a ≡ at + 1) (be : b ≡ a + 1) (ee : end ≡ b + length number) where
    pub fault_end : end ≡ at + length (fault_text offset)
    unfolding fault_text
    fault_end = then_end at a end letter_e (space ++ number) ae (then_end a b end space number be ee)

    pub fault_put : (text t u v : List ℕ) → t ≡ overwrite text at letter_e → u ≡ overwrite t a space → v ≡ overwrite u b number
        → v ≡ overwrite text at (fault_text offset)
    unfolding fault_text
    fault_put text t u v te ue ve =
        then_put at a end letter_e (space ++ number) ae (then_end a b end space number be ee) text t v te
        (then_put a b end space number be ee t u v ue ve)

-- ---- the text that is held

-- The octets up to the end of p, which is put at place `at`, are the octets up to `at` and then p.
front_put : (octets : List ℕ) (at : ℕ) (p : List ℕ) → at + length p ≤ length octets → take (at + length p) (overwrite octets at p) ≡ take at octets ++ p
unfolding overwrite
front_put octets at p l =
    ap (take (at + length p)) (sets-eq p octets at l)
    ∙ take_at (take at octets ++ p) (drop (at + length p) octets) (at + length p)
    (length-append (take at octets) p ∙ ap (λ (k : ℕ). k + length p) (length-take-le at octets (omega (arith, l))))

-- A line is put behind a text, which is the first octets up to place `at`.
pub line_added : (octets : List ℕ) → length octets ≡ 65536 → (at : ℕ) → at ≤ 65536 → (text : List ℕ) → take at octets ≡ text
    → length text + 64 ≤ 65536 → (line : List ℕ) → (end : ℕ) → (end ≡ at + length line) × (end ≤ at + 64)
    → (octets' : List ℕ) → octets' ≡ overwrite octets at line → take end octets' ≡ text ++ line
line_added octets long at inside text te room line end ends octets' oe =
    let begins : length text ≡ at = ap length (sym te) ∙ length-take-le at octets (omega (arith, long, inside)) in
    let fits : at + length line ≤ length octets = omega (arith, ends.0, ends.1, begins, room, long) in
    ap₂ (λ (m : ℕ) (s : List ℕ). take m s) ends.0 oe ∙ front_put octets at line fits
    ∙ ap (λ (s : List ℕ). s ++ line) te
