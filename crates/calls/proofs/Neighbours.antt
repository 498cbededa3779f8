-- Laws of the shared parts of receive and break: what their checks of operands say, and the head that they store.
use Prim.Native.Nat.{ℕ}
use mathlib.Core.Path.{◌≡◌, ap, ap₂, ◌∙◌}
use mathlib.Core.List.{List}
use lib.ListN.{length}
use Rattle.layout.specs.declared.address.Address.{Address}
use Rattle.layout.specs.declared.row.Head.{Head}
use Rattle.layout.specs.Row.{head_with}
use Rattle.layout.specs.Layout.{head_at, put_head, Sized}
use Rattle.table.specs.Table.{number}
use Rattle.counters.specs.declared.SequenceNumber.{SequenceNumber}
use Rattle.rules.specs.Checks.{operand_checks}
use Rattle.rules.specs.Exit.{under_head}
use Rattle.std.specs.Prelude.{⊤, Ok}
use Rattle.rules.specs.Decision.{Decision}
use Rattle.calls.specs.Answers.{answer_to}
use Rattle.calls.proofs.Checks.{table_sized}

-- ---- the operands

pub operands_table_sized : (t output : List ℕ) (c : ℕ) (neighbour : Address) (a : Decision ⊤) → a ≡ answer_to (operand_checks t (length output) c neighbour) → (u : ⊤) → a ≡ Ok u
    → Sized t
unfolding operand_checks
operands_table_sized t output c neighbour a = table_sized t output _ a

-- ---- the head is stored

-- The head of t, put over the rows of u with a new own number and clock.
pub head_under : (t u : List ℕ) (n : SequenceNumber) (c : ℕ) (h : Head) → h ≡ head_at t → (w : List ℕ) → w ≡ put_head u (head_with n h.request c h) → w ≡ under_head t n c u
head_under t u n c h he w we = we ∙ ap (λ (k : Head). put_head u (head_with n k.request c k)) he

-- The head of t, put over the rows of v with its own number unchanged.
pub same_number : (t : List ℕ) (c : ℕ) (h : Head) → h ≡ head_at t → (u v w : List ℕ) → u ≡ v → w ≡ put_head u (head_with h.number h.request c h)
    → w ≡ under_head t (number t) c v
same_number t c h he u v w e we =
    head_under t u h.number c h he w we ∙ ap₂ (λ (k : Head) (x : List ℕ). under_head t k.number c x) he e

pub head_stored : (t u : List ℕ) (n : SequenceNumber) (c : ℕ) (h k : Head) → k ≡ head_with n h.request c h → u ≡ put_head t k → u ≡ put_head t (head_with n h.request c h)
head_stored t u n c h k ke ue = ue ∙ ap (put_head t) ke
