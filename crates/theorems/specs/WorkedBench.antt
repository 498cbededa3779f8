-- Defines the worked case as octets: the input of the bench, and the text that it prints. PROTOCOL, 'Worked case'.
use Rattle.std.specs.Prelude.{ℕ, ◌+◌}
use mathlib.Core.List.{List, [], ◌∷◌, ◌++◌, flat_map}
use Rattle.octets.specs.LittleEndian.{number_octets}

-- ---- the commands of the case

-- Returns the octets of the address 2,0,0,0,0,i.
abbrev address : ℕ → List ℕ
address i = 2 ∷ 0 ∷ 0 ∷ 0 ∷ 0 ∷ i ∷ []

-- Command 1, point, with number 0.
abbrev point : ℕ → List ℕ
point i = (1 ∷ address i) ++ number_octets 4 0

-- Command 3, link.
abbrev link : ℕ → ℕ → ℕ → List ℕ
link p q metric = (3 ∷ p ∷ q ∷ []) ++ number_octets 4 metric

-- Command 4, ask, with flags 1 and lifetime 1000.
abbrev ask : ℕ → ℕ → List ℕ
ask p i = (4 ∷ p ∷ 1 ∷ address i) ++ number_octets 4 1000

-- Command 6, deliver.
abbrev deliver : ℕ → ℕ → List ℕ
deliver k p = (6 ∷ number_octets 2 k) ++ (p ∷ [])

-- Command 8, walk.
abbrev walk : ℕ → ℕ → List ℕ
walk p q = 8 ∷ p ∷ q ∷ []

-- Returns the parts one after another.
abbrev joined : List (List ℕ) → List ℕ
joined parts = flat_map (λ (s : List ℕ). s) parts

unfoldable pub worked_input : List ℕ
worked_input =
    joined
    (point 1
    ∷ point 2
    ∷ point 3
    ∷ link 0 1 10
    ∷ link 1 2 20
    ∷ ask 0 3
    ∷ deliver 0 1
    ∷ deliver 1 2
    ∷ deliver 2 1
    ∷ deliver 3 0
    ∷ walk 0 2
    ∷ deliver 3 0
    ∷ [])

-- ---- the lines

-- Returns a line of three numbers of one digit each.
abbrev digits : ℕ → ℕ → ℕ → List ℕ
digits a b c = (48 + a) ∷ 32 ∷ (48 + b) ∷ 32 ∷ (48 + c) ∷ 10 ∷ []

unfoldable pub worked_text : List ℕ
worked_text =
    joined
    (digits 1 0 0
    ∷ digits 1 0 0
    ∷ digits 1 0 0
    ∷ digits 3 0 0
    ∷ digits 3 0 0
    ∷ digits 4 0 1
    ∷ digits 6 0 1
    ∷ digits 6 0 1
    ∷ digits 6 0 1
    ∷ digits 6 0 0
    ∷ digits 8 0 2
    -- 6 25 0
    ∷ (54 ∷ 32 ∷ 50 ∷ 53 ∷ 32 ∷ 48 ∷ 10 ∷ [])
    ∷ [])
