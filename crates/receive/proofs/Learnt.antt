-- Laws of what a point learns if the checks of the rows accept.
use Rattle.std.specs.Prelude.{⊤, Ok, Err}
use Rattle.rules.specs.Decision.{Decision}
use Rattle.refusals.specs.declared.Refusal.{Refusal}
use Prim.Native.Nat.{ℕ}
use mathlib.Core.Path.{◌≡◌, refl, ap, ◌∙◌}
use mathlib.Core.List.{List}
use Rattle.layout.specs.Address.{same}
use Rattle.layout.specs.Layout.{head_at}
use Rattle.table.specs.Table.{row_for}
use Rattle.table.proofs.Lookup.{store_head}
use Rattle.element.specs.declared.PathInfo.{PathInfo}
use Rattle.rules.specs.declared.Arrival.{Arrival}
use Rattle.rules.specs.Learn.{learnt, subject_learnt, takes_link, transmitter_learnt}
use Rattle.rules.proofs.Branches.{cond_cases}
use Rattle.learn.specs.Learnt.{learnt_if}

-- Learning leaves the head as it was.
module _ (a : Arrival) where
  subject_head : (p : PathInfo) (t : List ℕ) → head_at (subject_learnt a p t) ≡ head_at t
  unfolding subject_learnt
  subject_head p t = store_head t _

  transmitter_head : (lifetime : ℕ) (t : List ℕ) → head_at (transmitter_learnt a lifetime t) ≡ head_at t
  unfolding transmitter_learnt
  transmitter_head lifetime t =
      cond_cases (λ (u : List ℕ). head_at u ≡ head_at t) (takes_link a (row_for t a.transmitter)) (λ _. store_head t _) (λ _. refl)

  pub learnt_head : (p : PathInfo) (t : List ℕ) → head_at (learnt a p t) ≡ head_at t
  unfolding learnt
  learnt_head p t =
      cond_cases (λ (u : List ℕ). head_at u ≡ head_at t) (same a.transmitter p.subject) (λ _. subject_head p t)
      (λ _. transmitter_head p.lifetime (subject_learnt a p t) ∙ subject_head p t)

-- A refusal learns nothing, and an acceptance does steps 1 and 2.
module _ (a : Arrival) (p : PathInfo) (t u : List ℕ) (r : Decision ⊤) (ue : u ≡ learnt_if r a p t) where
  pub nothing_learnt : (n : Refusal) → r ≡ Err n → u ≡ t
  nothing_learnt n e = ue ∙ ap (λ (k : Decision ⊤). learnt_if k a p t) e

  pub both_steps : (done : ⊤) → r ≡ Ok done → u ≡ learnt a p t
  both_steps done e = ue ∙ ap (λ (k : Decision ⊤). learnt_if k a p t) e
