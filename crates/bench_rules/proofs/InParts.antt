-- Laws of an input that is obeyed in parts: the course of a part, and how the run continues after it.
use Prim.Native.Nat.{ℕ, zero, suc, ◌+◌, ◌-◌, ◌*◌, ◌<◌, ◌≤◌}
use mathlib.Core.Path.{◌≡◌, refl, sym, ap, ap₂, subst, ◌∙◌}
use mathlib.Core.Bool.{Bool, true, false, ◌||◌, cond}
use mathlib.Core.List.{List, [], ◌∷◌, ◌++◌, append-nil, append_assoc}
use lib.Dec.{eqb}
use lib.ListN.{length, drop, length-append, length-drop, get_or-append}
use lib.Seq.{drop-append-le, drop-drop, drop-length}
use native.Mathlib.Omega.{arith}
use borrow.Author.Tests.{eqb-true, ne_eqb, le-ltb}
use Rattle.octets.specs.LittleEndian.{number_at}
use Rattle.octets.proofs.Tests.{clash}
use Rattle.rules.proofs.Branches.{cond_cases}
use Rattle.bench_rules.specs.Bench.{Bench, Done, fault, line, WithLinks}
use Rattle.bench_rules.specs.Interpreter.{length_of, obeyed, command}
use Rattle.bench_rules.specs.Text.{line_text, fault_text}
use Rattle.bench_rules.specs.Run.{Standing, Course, going, ended, after_command, obey_first, behind, obey_until, never, obey_all}
use Rattle.bench_rules.proofs.Sound.{whole_command}

-- ---- a command reads only its own octets

cond_alike : {A : Type 0} (b : Bool) {x y x' y' : A} → (b ≡ true → x ≡ x') → (b ≡ false → y ≡ y') → cond b x y ≡ cond b x' y'
cond_alike true h k = h refl
cond_alike false h k = k refl

-- If neither `length s` is 0 nor the other test holds, there are octets left.
empty_test : (s : List ℕ) (other : Bool) → (eqb (length s) 0 || other) ≡ false → 0 < length s
empty_test [] other e = clash cc
empty_test (o ∷ s) other e = omega arith

or-true : (b : Bool) → (b || true) ≡ true
or-true true = refl
or-true false = refl

number_before : (n : ℕ) (s y : List ℕ) (at : ℕ) → at + n ≤ length s → number_at n (s ++ y) at ≡ number_at n s at
unfolding number_at
number_before zero s y at l = refl
number_before (suc n) s y at l =
    ap₂ (λ (b x : ℕ). b + 256 * x) (get_or-append s y 0 at (omega arith)) (number_before n s y (suc at) (omega arith))

module _ (b : Bench) (links : List (List ℕ)) (s y : List ℕ) where
  -- If s has all octets of command c, it has all octets of an equal command k.
  operands : (k c : ℕ) → eqb c k ≡ true → length_of c ≤ length s → length_of k ≤ length s
  operands k c e l = rw (← eqb-true c k e) l

  obeyed_alike : (c : ℕ) → length_of c ≤ length s → obeyed b links (s ++ y) c ≡ obeyed b links s c
  unfolding obeyed
  obeyed_alike c l =
      cond_alike (eqb c 1) (λ e. let k = operands 1 c e l in rw (number_before 6 s y 1 (omega (arith, k)), number_before 4 s y 7 (omega (arith, k)))) (λ _.
      cond_alike (eqb c 2) (λ e. let k = operands 2 c e l in rw (number_before 4 s y 1 (omega (arith, k)))) (λ _.
      cond_alike (eqb c 3) (λ e. let k = operands 3 c e l in
      rw (number_before 1 s y 1 (omega (arith, k)), number_before 1 s y 2 (omega (arith, k)), number_before 4 s y 3 (omega (arith, k)))) (λ _.
      cond_alike (eqb c 4) (λ e. let k = operands 4 c e l in
      rw (number_before 1 s y 1 (omega (arith, k)), number_before 1 s y 2 (omega (arith, k)), number_before 6 s y 3 (omega (arith, k)), number_before 4 s y 9 (omega (arith, k)))) (λ _.
      cond_alike (eqb c 5) (λ e. let k = operands 5 c e l in rw (number_before 1 s y 1 (omega (arith, k)), number_before 4 s y 2 (omega (arith, k)))) (λ _.
      cond_alike (eqb c 6) (λ e. let k = operands 6 c e l in rw (number_before 2 s y 1 (omega (arith, k)), number_before 1 s y 3 (omega (arith, k)))) (λ _.
      cond_alike (eqb c 7) (λ e. let k = operands 7 c e l in rw (number_before 1 s y 1 (omega (arith, k)), number_before 1 s y 2 (omega (arith, k)))) (λ _.
      cond_alike (eqb c 8) (λ e. let k = operands 8 c e l in rw (number_before 1 s y 1 (omega (arith, k)), number_before 1 s y 2 (omega (arith, k)))) (λ _.
      refl))))))))

  module _ (some : 0 < length_of (number_at 1 s 0)) (whole : length_of (number_at 1 s 0) ≤ length s) where
    first_octet : number_at 1 (s ++ y) 0 ≡ number_at 1 s 0
    first_octet = number_before 1 s y 0 (omega (arith, some, whole))

    command_alike : command b links (s ++ y) ≡ command b links s
    unfolding command
    command_alike =
        let n : ℕ = length_of (number_at 1 s 0) in
        let longer : n ≤ length (s ++ y) = omega (arith, whole, length-append s y) in
        rw (first_octet, ne_eqb n 0 (λ e. omega (arith, some, e)), le-ltb (length (s ++ y)) n longer, le-ltb (length s) n whole)
        (obeyed_alike (number_at 1 s 0) whole)

-- ---- the first command, with any text before it and any octets after it

-- States that the command prints a line, and that it has some octets, which are all there.
record Prints (text : List ℕ) (x : Standing) (s text' : List ℕ) (x' : Standing) : Type 0 where
  some : 0 < length_of (number_at 1 s 0)
  whole : length_of (number_at 1 s 0) ≤ length s
  offset : x'.offset ≡ x.offset + length_of (number_at 1 s 0)
  anywhere : (before y : List ℕ) → obey_first (before ++ text) x (s ++ y) ≡ going (before ++ text') x'

abbrev FirstIs : List ℕ → Standing → List ℕ → Course → Type 0
FirstIs text x s (going text' x') = Prints text x s text' x'
FirstIs text x s (ended text') = (before : List ℕ) → obey_first (before ++ text) x s ≡ ended (before ++ text')

module _ (text : List ℕ) (x : Standing) (s : List ℕ) where
  first_is : FirstIs text x s (obey_first text x s)
  unfolding obey_first
  first_is = by (command x.bench x.links s) refl
    where
      c : ℕ
      c = number_at 1 s 0

      by : (w : WithLinks) → command x.bench x.links s ≡ w → FirstIs text x s (after_command text x c w.links w.done)
      by w e = of w.done refl
        where
          of : (d : Done) → w.done ≡ d → FirstIs text x s (after_command text x c w.links d)
          of fault q = λ before. rw (e, q, append_assoc before text (fault_text x.offset))
          of (line answer third b) q =
              let here : (command x.bench x.links s).done ≡ line answer third b = rw e q in
              let All-there = whole_command x.bench x.links s answer third b here in
              record {
                some = All-there.0;
                whole = All-there.1;
                offset = refl;
                anywhere = λ before y.
                    rw (command_alike x.bench x.links s y All-there.0 All-there.1, first_octet x.bench x.links s y All-there.0 All-there.1, e, q, append_assoc before text (line_text c answer third));
              }

-- ---- the bound on the number of commands plays no part, if it is at least the number of octets

module _ (pauses : (text s : List ℕ) → Bool) where
  pub ended_stays : (n : ℕ) (text s : List ℕ) → obey_until pauses n (ended text) s ≡ ended text
  unfolding obey_until
  ended_stays zero text s = refl
  ended_stays (suc n) text s = refl

  pub over_stays : (n : ℕ) (c : Course) (s : List ℕ) → length s ≡ 0 → obey_until pauses n c s ≡ c
  unfolding obey_until
  over_stays zero c s e = refl
  over_stays (suc n) (ended text) s e = refl
  over_stays (suc n) (going text x) s e = rw e

  pub paused_stays : (n : ℕ) (text : List ℕ) (x : Standing) (s : List ℕ) → pauses text s ≡ true → obey_until pauses n (going text x) s ≡ going text x
  unfolding obey_until
  paused_stays zero text x s e = refl
  paused_stays (suc n) text x s e = rw (e, or-true (eqb (length s) 0))

  -- Two bounds agree after the first command, if they agree for everything shorter.
  module _ (text : List ℕ) (x : Standing) (s : List ℕ) (n m : ℕ) where
    behind_agrees : ((c : Course) → length (behind s) ≤ n → length (behind s) ≤ m → obey_until pauses n c (behind s) ≡ obey_until pauses m c (behind s))
        → (0 < length_of (number_at 1 s 0) → (length (behind s) ≤ n) × (length (behind s) ≤ m))
        → (c : Course) → FirstIs text x s c → obey_until pauses n c (behind s) ≡ obey_until pauses m c (behind s)
    behind_agrees shorter few (ended text') first = ended_stays n text' (behind s) ∙ sym (ended_stays m text' (behind s))
    behind_agrees shorter few (going text' x') first = let k = few first.some in shorter (going text' x') k.0 k.1

  enough : (n m : ℕ) (c : Course) (s : List ℕ) → length s ≤ n → length s ≤ m → obey_until pauses n c s ≡ obey_until pauses m c s
  unfolding obey_until
  enough zero m c s l k = sym (over_stays m c s (omega (arith, l)))
  enough (suc n) zero c s l k = over_stays (suc n) c s (omega (arith, k))
  enough (suc n) (suc m) (ended text) s l k = refl
  enough (suc n) (suc m) (going text x) s l k =
      let fewer = length-drop (length_of (number_at 1 s 0)) s in
      cond_alike (eqb (length s) 0 || pauses text s) (λ _. refl) (λ _.
      behind_agrees text x s n m (λ c. enough n m c (behind s)) (λ some. (omega (arith, l, fewer, some), omega (arith, k, fewer, some)))
      (obey_first text x s) (first_is text x s))

  -- To obey s is to obey its first command, and then the octets after it.
  pub obeyed_more : (text : List ℕ) (x : Standing) (s : List ℕ) → 0 < length s → pauses text s ≡ false
      → obey_until pauses (length s) (going text x) s ≡ obey_until pauses (length (behind s)) (obey_first text x s) (behind s)
  unfolding obey_until
  obeyed_more text x s some goes = by (length s) refl some
    where
      by : (n : ℕ) → length s ≡ n → 0 < n
          → obey_until pauses n (going text x) s ≡ obey_until pauses (length (behind s)) (obey_first text x s) (behind s)
      by zero e l = absurd (omega (arith, l))
      by (suc k) e l =
          let filled : eqb (length s) 0 ≡ false = ne_eqb (length s) 0 (λ q. omega (arith, q, e)) in
          rw (filled, goes)
          (behind_agrees text x s k (length (behind s)) (λ c. enough k (length (behind s)) c (behind s))
          (λ some. (omega (arith, e, length-drop (length_of (number_at 1 s 0)) s, some), omega arith))
          (obey_first text x s) (first_is text x s))

-- ---- a part of the input, with any text before it and any octets after it

-- States that the octets s bring the bench from x to x'. Whatever octets come after s, the whole run continues from x' with the
-- octets of s that are left and then the octets after s.
pub record Leads (text : List ℕ) (x : Standing) (s text' : List ℕ) (x' : Standing) : Type 0 where
  pub later : x.offset ≤ x'.offset
  pub inside : x'.offset ≤ x.offset + length s
  pub goes_on : (before y : List ℕ)
      → obey_all (going (before ++ text) x) (s ++ y) ≡ obey_all (going (before ++ text') x') (drop (x'.offset - x.offset) s ++ y)

-- States that the octets s bring the bench from x to this course, or that the whole run ends as this course does if a fault
-- has ended it.
abbrev pub ComesTo : List ℕ → Standing → List ℕ → Course → Type 0
ComesTo text x s (going text' x') = Leads text x s text' x'
ComesTo text x s (ended text') = (before : List ℕ) → obey_all (going (before ++ text) x) s ≡ ended (before ++ text')

nowhere : (text : List ℕ) (x : Standing) (s : List ℕ) → ComesTo text x s (going text x)
nowhere text x s =
    let none : x.offset - x.offset ≡ 0 = omega arith in
    record { later = omega arith; inside = omega arith; goes_on = λ before y. rw none }

module _ (text : List ℕ) (x : Standing) (s : List ℕ) (text₁ : List ℕ) (x₁ : Standing) (first : Prints text x s text₁ x₁) where
  abbrev long : ℕ
  long = length_of (number_at 1 s 0)

  -- The run obeys the first command, and then everything after it.
  step : (before y : List ℕ) → obey_all (going (before ++ text) x) (s ++ y) ≡ obey_all (going (before ++ text₁) x₁) (behind s ++ y)
  step before y =
      let some : 0 < length (s ++ y) = omega (arith, first.some, first.whole, length-append s y) in
      let rest : behind (s ++ y) ≡ behind s ++ y =
      ap (λ (k : ℕ). drop (length_of k) (s ++ y)) (first_octet x.bench x.links s y first.some first.whole)
      ∙ drop-append-le long s y first.whole in
      obeyed_more never (before ++ text) x (s ++ y) some refl
      ∙ ap₂ (λ (c : Course) (r : List ℕ). obey_all c r) (first.anywhere before y) rest

  leads_further : (c : Course) → ComesTo text₁ x₁ (behind s) c → ComesTo text x s c
  leads_further (going text' x') h =
      let fewer = length-drop long s in
      let places : long + (x'.offset - x₁.offset) ≡ x'.offset - x.offset = omega (arith, h.later, first.offset) in
      record {
        later = omega (arith, h.later, first.offset);
        inside = omega (arith, h.inside, first.offset, fewer, first.whole);
        goes_on = λ before y.
            step before y ∙ h.goes_on before y
            ∙ ap (λ (r : List ℕ). obey_all (going (before ++ text') x') (r ++ y))
            (drop-drop (x'.offset - x₁.offset) long s ∙ ap (λ (k : ℕ). drop k s) places);
      }
  leads_further (ended text') h = λ before.
      ap (obey_all (going (before ++ text) x)) (sym (append-nil s)) ∙ step before []
      ∙ ap (obey_all (going (before ++ text₁) x₁)) (append-nil (behind s)) ∙ h before

module _ (pauses : (text s : List ℕ) → Bool) where
  pub comes_to : (n : ℕ) (text : List ℕ) (x : Standing) (s : List ℕ) → ComesTo text x s (obey_until pauses n (going text x) s)
  unfolding obey_until
  comes_to zero text x s = nowhere text x s
  comes_to (suc n) text x s =
      cond_cases (ComesTo text x s) (eqb (length s) 0 || pauses text s) (λ _. nowhere text x s)
      (λ e. of (empty_test s (pauses text s) e) (obey_first text x s) (first_is text x s) (λ text₁ x₁. comes_to n text₁ x₁ (behind s)))
    where
      of : 0 < length s → (c : Course) → FirstIs text x s c → ((text₁ : List ℕ) (x₁ : Standing) → ComesTo text₁ x₁ (behind s) (obey_until pauses n (going text₁ x₁) (behind s)))
          → ComesTo text x s (obey_until pauses n c (behind s))
      of some (ended text') first ih =
          rw (ended_stays pauses n text' (behind s))
          (λ before. obeyed_more never (before ++ text) x s some refl ∙ ap (λ (c : Course). obey_all c (behind s)) (first before)
          ∙ ended_stays never (length (behind s)) (before ++ text') (behind s))
      of some (going text₁ x₁) first ih = leads_further text x s text₁ x₁ first (obey_until pauses n (going text₁ x₁) (behind s)) (ih text₁ x₁)

-- If the bench obeys all octets of x and has not ended, then to obey y after x is to obey x ++ y.
pub obeyed_in_parts : (text : List ℕ) (b : Standing) (x y text' : List ℕ) (b' : Standing) → obey_all (going text b) x ≡ going text' b'
    → b'.offset ≡ b.offset + length x → obey_all (going text b) (x ++ y) ≡ obey_all (going text' b') y
obeyed_in_parts text b x y text' b' is all-used =
    let leads : Leads text b x text' b' = subst (ComesTo text b x) is (comes_to never (length x) text b x) in
    let used : b'.offset - b.offset ≡ length x = omega (arith, all-used) in
    leads.goes_on [] y ∙ ap (λ (r : List ℕ). obey_all (going text' b') (r ++ y)) (ap (λ (k : ℕ). drop k x) used ∙ drop-length x)
