-- Defines what the bench prints, as octets of ASCII. PROTOCOL, 'Bench'.
use Rattle.std.specs.Prelude.{ℕ, zero, suc, ◌+◌, ◌/◌, ◌%◌, cond, List, [], ◌∷◌, ◌++◌, ltb}

-- Texts of one character.
abbrev pub space : List ℕ
space = 32 ∷ []

abbrev pub newline : List ℕ
newline = 10 ∷ []

abbrev pub letter_e : List ℕ
letter_e = 69 ∷ []

abbrev pub digit : ℕ → List ℕ
digit d = (48 + d) ∷ []

-- Returns n in decimal, without leading zeros, where n has at most `most` digits.
unfoldable pub digits_of : (most : ℕ) → ℕ → List ℕ
digits_of zero n = []
digits_of (suc most) n = cond (ltb n 10) [] (digits_of most (n / 10)) ++ digit (n % 10)

-- A number of 64 bits has at most 20 digits.
abbrev pub decimal : ℕ → List ℕ
decimal n = digits_of 20 n

-- Returns the line of a command: the command, the answer or refusal, and the third number.
unfoldable pub line_text : (command answer third : ℕ) → List ℕ
line_text command answer third = decimal command ++ space ++ decimal answer ++ space ++ decimal third ++ newline

-- Returns the line of a fault: E and the command's octet offset.
unfoldable pub fault_text : (offset : ℕ) → List ℕ
fault_text offset = letter_e ++ space ++ decimal offset ++ newline
