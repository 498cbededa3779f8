-- Defines checks, rulings and decisions. A call is refused by the first of its checks that applies, and accepted if none applies.
-- PROTOCOL, 'Refusals'.
use Rattle.std.specs.Prelude.{ℕ, Bool, cond, List, [], ◌∷◌, ◌++◌, ltb, Result, Ok, Err}
use Rattle.refusals.specs.declared.Refusal.{Refusal}

-- A refusal (`Err`), or an acceptance with what the call does (`Ok`).
abbrev pub Decision : Type 0 → Type 0
Decision A = Result A Refusal

-- A refusal, and whether it applies.
pub record Check : Type 0 where
  pub refusal : Refusal
  pub applies : Bool

-- The checks of a call in their order, and what the call does if none of them applies.
pub record Ruling (A : Type 0) : Type 0 where
  pub checks : List Check
  pub otherwise : A

-- A ruling is written as a `do` block. Each line is a check `refuse r when test`, or the name of a list of checks. The last
-- line is `accept` with what the call does if no check applies.
infix 6 refuse◌when◌
abbrev pub refuse◌when◌ : Refusal → Bool → List Check
refuse◌when◌ r b = record { refusal = r; applies = b } ∷ []

-- `then` joins the checks of a list that has a name.
infixr 5 ◌then◌
abbrev pub ◌then◌ : List Check → List Check → List Check
◌then◌ checks others = checks ++ others

-- The comparisons of the checks, in words.
infix 45 ◌above◌
abbrev pub ◌above◌ : ℕ → ℕ → Bool
◌above◌ x bound = ltb bound x

infix 45 ◌below◌
abbrev pub ◌below◌ : ℕ → ℕ → Bool
◌below◌ x bound = ltb x bound

abbrev pub accept : {A : Type 0} → A → Ruling A
accept a = record { checks = []; otherwise = a }

abbrev pub ◌>>◌ : {A : Type 0} → List Check → Ruling A → Ruling A
◌>>◌ checks r = record { checks = checks ++ r.checks; otherwise = r.otherwise }

-- The first check that applies refuses the call.
abbrev pub judged : {A : Type 0} → List Check → A → Decision A
judged [] a = Ok a
judged (k ∷ checks) a = cond k.applies (Err k.refusal) (judged checks a)

abbrev pub decide : {A : Type 0} → Ruling A → Decision A
decide r = judged r.checks r.otherwise
