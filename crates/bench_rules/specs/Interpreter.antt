-- Defines a command as octets. PROTOCOL, 'Bench'.
use Rattle.std.specs.Prelude.{ℕ, Bool, ◌||◌, cond, List, [], ◌∷◌, eqb, length, get_or}
use Rattle.octets.specs.LittleEndian.{number_at}
use Rattle.rules.specs.Decision.{◌below◌}
use Rattle.bench_rules.specs.Bench.{Bench, Done, fault, WithLinks}
use Rattle.bench_rules.specs.Commands.{add_point, advance, link, ask_for, announce_self, deliver, break_off, walk_to}

-- Returns how many octets a command has with its operands: 0 if the command is unknown.
abbrev pub length_of : ℕ → ℕ
length_of c = get_or (0 ∷ 11 ∷ 5 ∷ 7 ∷ 13 ∷ 6 ∷ 4 ∷ 3 ∷ 3 ∷ []) c 0

-- Returns the result of a command that leaves the links as they are.
abbrev pub leaving_links : List (List ℕ) → Done → WithLinks
leaving_links links d = record { done = d; links = links }

-- Returns the result of command c, with its operands in the octets s. The operands have, in octets: point 6, 4; advance 4;
-- link 1, 1, 4; ask 1, 1, 6, 4; announce 1, 4; deliver 2, 1; break 1, 1; walk 1, 1.
unfoldable pub obeyed : Bench → List (List ℕ) → List ℕ → ℕ → WithLinks
obeyed b links s c =
    cond (eqb c 1) (leaving_links links (add_point b (record { 0 = number_at 6 s 1 }) (record { 0 = number_at 4 s 7 })))
    (cond (eqb c 2) (leaving_links links (advance b (number_at 4 s 1)))
    (cond (eqb c 3) (link b links (number_at 1 s 1) (number_at 1 s 2) (number_at 4 s 3))
    (cond (eqb c 4)
    (leaving_links links (ask_for b (number_at 1 s 1) (number_at 1 s 2) (record { 0 = number_at 6 s 3 }) (number_at 4 s 9)))
    (cond (eqb c 5) (leaving_links links (announce_self b (number_at 1 s 1) (number_at 4 s 2)))
    (cond (eqb c 6) (leaving_links links (deliver b links (number_at 2 s 1) (number_at 1 s 3)))
    (cond (eqb c 7) (leaving_links links (break_off b (number_at 1 s 1) (number_at 1 s 2)))
    (cond (eqb c 8) (leaving_links links (walk_to b (number_at 1 s 1) (number_at 1 s 2))) (leaving_links links fault))))))))

-- Returns the result of the command at the start of s. An unknown command or a cut operand is a fault.
unfoldable pub command : Bench → List (List ℕ) → List ℕ → WithLinks
command b links s =
    let c = number_at 1 s 0 in
    cond (eqb (length_of c) 0 || (length s) below (length_of c)) (leaving_links links fault) (obeyed b links s c)

-- Reports whether octets of the first command are still to come. An unknown command has all of its octets.
unfoldable pub is_cut : List ℕ → Bool
is_cut s = eqb (length s) 0 || (length s) below (length_of (number_at 1 s 0))
