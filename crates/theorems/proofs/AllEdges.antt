-- Every test of P1 to P8, of the trainees' errors and of the further cases passes: the definitions compute it.
use Rattle.rules.specs.Lists.{all}
use mathlib.Core.Path.{◌≡◌, refl}
use mathlib.Core.Bool.{true}
use Rattle.rules.proofs.Computing.{computing}
use Rattle.theorems.specs.Edges.{edges, shut_out, further_cases}

pub all_edges : all (λ b. b) edges ≡ true
unfolding computing
all_edges = refl

pub all_shut_out : all (λ b. b) shut_out ≡ true
unfolding computing
all_shut_out = refl

pub all_further : all (λ b. b) further_cases ≡ true
unfolding computing
all_further = refl
