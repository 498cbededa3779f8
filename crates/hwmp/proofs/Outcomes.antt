-- Laws of what C receives: it is the exit of the call.
use Rattle.refusals.specs.declared.Refusal.{Refusal}
use Rattle.calls.specs.declared.Emitted.{Emitted}
use Rattle.std.specs.Prelude.{Err, Ok, Result}
use Prim.Native.Nat.{ℕ, ◌≤◌}
use mathlib.Core.Path.{◌≡◌, refl, sym, ap, ◌∙◌}
use mathlib.Core.List.{List}
use Rattle.counters.specs.declared.Metric.{Metric}
use Rattle.layout.specs.declared.address.Address.{Address}
use Rattle.layout.specs.Address.{address_of}
use native.Mathlib.Omega.{arith}
use Rattle.rules.specs.Decision.{Decision}
use Rattle.rules.specs.Exit.{Lent, Effect, Exit, at_exit}
use Rattle.rules.specs.Break.{break_neighbour}
use Rattle.rules.specs.Receive.{receive}
use Rattle.rules.specs.Walk.{Walked, walk, walked_at_exit}
use Rattle.rules.proofs.Hops.{walk_hops}
use Rattle.calls.specs.Answers.{exit_of}
use Rattle.walk.specs.declared.Ending.{Ending}
use Rattle.walk.specs.declared.Walked.{Walked as InNumbers}
use Rattle.walk.specs.Answers.{walk_decision, numbers_of}
use Rattle.hwmp.specs.declared.HwmpOutcome.{HwmpOutcome}
use Rattle.hwmp.specs.ForC.{outcome_for_c, exit_for_c}

pub exit_for_c_lem : (o : Decision Emitted) (r : HwmpOutcome) → r ≡ outcome_for_c o → (l : Lent) (output : List ℕ) (x : Exit) → exit_of o l output ≡ x → exit_for_c r l output ≡ x
exit_for_c_lem (Ok e) r re l output x h = ap (λ (q : HwmpOutcome). exit_for_c q l output) re ∙ h
exit_for_c_lem (Err n) r re l output x h = ap (λ (q : HwmpOutcome). exit_for_c q l output) re ∙ h

-- Break and receive read the address of the neighbour or transmitter from its octets.
module _ (o : Decision Emitted) (r : HwmpOutcome) (re : r ≡ outcome_for_c o) (l l₀ : Lent) (output output₀ s : List ℕ) (a : Address) (ae : a ≡ address_of s) where
  by_address : (call : Address → Decision Effect) → exit_of o l output ≡ at_exit l₀ output₀ (call a) → exit_for_c r l output ≡ at_exit l₀ output₀ (call (address_of s))
  by_address call h = exit_for_c_lem o r re l output _ (h ∙ ap (λ (b : Address). at_exit l₀ output₀ (call b)) ae)

  pub break_exit_for_c : (n c : ℕ) → exit_of o l output ≡ at_exit l₀ output₀ (break_neighbour l₀ n c a)
      → exit_for_c r l output ≡ at_exit l₀ output₀ (break_neighbour l₀ n c (address_of s))
  break_exit_for_c n c = by_address (break_neighbour l₀ n c)

  pub receive_exit_for_c : (n c : ℕ) (link : Metric) (e : List ℕ)
      → exit_of o l output ≡ at_exit l₀ output₀ (receive l₀ n (record { clock = c; transmitter = a; link = link }) e)
      → exit_for_c r l output ≡ at_exit l₀ output₀ (receive l₀ n (record { clock = c; transmitter = address_of s; link = link }) e)
  receive_exit_for_c n c link e = by_address (λ (b : Address). receive l₀ n (record { clock = c; transmitter = b; link = link }) e)

-- There are no more hops than points, whether or not the walk is refused.
pub hops_few : (s : List ℕ) (count c : ℕ) (start d : Address) (e : Result Ending Refusal) → walk_decision e ≡ walk s count c start d
    → (w : InNumbers) → numbers_of w ≡ walked_at_exit (walk_decision e) → w.hops ≤ count
hops_few s count c start d e ee w we = by (walk_decision e) refl
  where
    by : (x : Decision Walked) → walk_decision e ≡ x → w.hops ≤ count
    by (Err n) xe = let z = ap (λ (v : Walked). v.hops) (we ∙ ap walked_at_exit xe) in omega (arith, z)
    by (Ok v) xe =
        let same = ap (λ (u : Walked). u.hops) (we ∙ ap walked_at_exit xe) in
        omega (arith, same, walk_hops s count c start d v (sym ee ∙ xe))
