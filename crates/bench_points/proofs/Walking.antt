-- Laws of the command that walks.
use Prim.Native.Nat.{ℕ, ◌*◌, ◌<◌, ◌≤◌}
use mathlib.Core.Path.{◌≡◌, ap, ◌∙◌}
use mathlib.Core.List.{List}
use lib.ListN.{take}
use borrow.Author.Tests.{lt-ltb, le-ltb}
use Rattle.std.specs.Prelude.{Ok, Err, Result}
use Rattle.refusals.specs.declared.Refusal.{Refusal}
use Rattle.layout.specs.declared.address.Address.{Address}
use Rattle.layout.specs.Address.{address_of}
use Rattle.rules.specs.Walk.{table_at, walked_at_exit, walk}
use Rattle.walk.specs.declared.Ending.{Ending}
use Rattle.walk.specs.declared.Walked.{Walked as InNumbers}
use Rattle.walk.specs.Answers.{walk_decision, numbers_of}
use Rattle.bench_rules.specs.Commands.{walked_line, walk_to}
use Rattle.bench_points.specs.declared.Fault.{Fault}
use Rattle.bench_points.specs.InCode.{Walks}

module _ (points clock p q : ℕ) (tables : List ℕ) where
  pub start_unknown : points ≤ p → (e : Fault) → Walks (Err e) points clock p q tables
  unfolding Walks walk_to
  start_unknown no-p e frames = rw (le-ltb p points no-p)

  module _ (l : p < points) where
    pub end_unknown : points ≤ q → (e : Fault) → Walks (Err e) points clock p q tables
    unfolding Walks walk_to
    end_unknown no-q e frames = rw (lt-ltb p points l, le-ltb q points no-q)

    pub walked : q < points → (part : List ℕ) → part ≡ take (544 * points) tables → (start d : Address) → start ≡ address_of (table_at tables 544 p)
        → d ≡ address_of (table_at tables 544 q) → (e : Result Ending Refusal) → walk_decision e ≡ walk part points clock start d
        → (w : InNumbers) → numbers_of w ≡ walked_at_exit (walk_decision e)
        → Walks (Ok (record { answer = w.answer; third = w.hops })) points clock p q tables
    unfolding Walks walk_to
    walked m part pe start d se de e ee w we frames =
        let over = take (544 * points) tables in
        let is : numbers_of w ≡ walked_at_exit (walk over points clock (address_of (table_at tables 544 p)) (address_of (table_at tables 544 q))) =
        we ∙ rw (ee, pe, se, de) in
        rw (lt-ltb p points l, lt-ltb q points m)
        (ap (walked_line (record { tables = tables; points = points; frames = frames; clock = clock })) is)
