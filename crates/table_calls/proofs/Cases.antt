-- Laws of the calls, case by case, as the proof of a `return` needs them. Each nested module adds a test that was passed.
use Rattle.std.specs.Prelude.{Ok, Err, ⊤, Option, Some, None, Result, ok_or}
use Rattle.std.specs.Result.{IfOk}
use Rattle.refusals.specs.declared.Refusal.{Refusal}
use Rattle.refusals.specs.declared.Refusal.TheVariants.{TableLength, ClockTooLarge, BadAddress, NotATable, OldClock, NoNextHop, NotHeld}
use Prim.Native.Nat.{ℕ, ◌+◌, ◌≤◌, ◌<◌}
use mathlib.Core.Path.{◌≡◌, refl}
use mathlib.Core.Bool.{Bool, true, false, not}
use mathlib.Core.List.{List}
use lib.ListN.{length}
use borrow.Author.Tests.{lt-ltb, le-ltb}
use Rattle.counters.specs.declared.SequenceNumber.{SequenceNumber}
use Rattle.layout.specs.declared.address.Address.{Address}
use Rattle.layout.specs.declared.row.Head.{Head}
use Rattle.layout.specs.declared.row.Row.{Row as TableRow}
use Rattle.layout.specs.Address.{individual}
use Rattle.layout.specs.Row.{free_row}
use Rattle.layout.specs.Layout.{sized, place, head_at, row_at, put_row, row_octets}
use Rattle.table.specs.Table.{is_table, find_row, row_for, active_next, fresh, freed}
use Rattle.table.proofs.Cases.{found_within, row_at_lem, row_none}
use Rattle.rules.specs.Decision.{Decision}
use Rattle.rules.specs.Exit.{table_at_exit}
use Rattle.rules.specs.Fresh.{make_fresh}
use Rattle.rules.specs.Forget.{forget}
use Rattle.rules.specs.NextHop.{next_hop}
use Rattle.calls.specs.Answers.{table_exit_of}
use Rattle.table_calls.specs.Checks.{forget_decision}

-- ---- make a fresh table

module _ (t : List ℕ) (d : Address) (s : SequenceNumber) (a : Bool) (ae : a ≡ sized t) where
  pub fresh_1 : not a ≡ true → table_exit_of (Err TableLength) t ≡ table_at_exit t (make_fresh t d s)
  unfolding make_fresh
  fresh_1 no_a = cc

  module _ (yes_a : not a ≡ false) (b : Bool) (be : b ≡ individual d) where
    pub fresh_9 : not b ≡ true → table_exit_of (Err BadAddress) t ≡ table_at_exit t (make_fresh t d s)
    unfolding make_fresh
    fresh_9 no_b = cc

    pub fresh_made : not b ≡ false → (done : ⊤) (u : List ℕ) → u ≡ fresh (length t) d s → table_exit_of (Ok done) u ≡ table_at_exit t (make_fresh t d s)
    unfolding make_fresh
    fresh_made yes_b done u ue = cc

-- ---- forget a destination

module _ (t : List ℕ) (d : Address) (a : Bool) (ae : a ≡ sized t) where
  pub forget_1 : not a ≡ true → forget_decision t (Err TableLength) ≡ forget t d
  unfolding forget
  forget_1 no_a = cc

  module _ (yes_a : not a ≡ false) (b : Bool) (be : b ≡ individual d) where
    pub forget_9 : not b ≡ true → forget_decision t (Err BadAddress) ≡ forget t d
    unfolding forget
    forget_9 no_b = cc

    module _ (yes_b : not b ≡ false) (c : Bool) (ce : c ≡ is_table t) where
      pub forget_21 : not c ≡ true → forget_decision t (Err NotATable) ≡ forget t d
      unfolding forget
      forget_21 no_c = cc

      module _ (yes_c : not c ≡ false) (f : Option ℕ) (fe : f ≡ find_row t d) where
        pub forget_found : (r : Result ℕ Refusal) → r ≡ ok_or f NotHeld → forget_decision t r ≡ forget t d
        unfolding forget freed
        forget_found r re = by f fe re
          where
            by : (g : Option ℕ) → g ≡ find_row t d → r ≡ ok_or g NotHeld → forget_decision t r ≡ forget t d
            by None ge re = cc (row_none t d None ge refl)
            by (Some i) ge re = cc (row_at_lem t d (Some i) ge i refl (row_at t i) refl)

-- The row to free lies inside the table.
pub found_inside : (t : List ℕ) (d : Address) (f : Option ℕ) → f ≡ find_row t d → (r : Result ℕ Refusal) → r ≡ ok_or f NotHeld
    → IfOk r (λ i. place i + row_octets ≤ length t)
found_inside t d f fe r re = by f refl
  where
    by : (g : Option ℕ) → f ≡ g → IfOk r (λ i. place i + row_octets ≤ length t)
    by None e = rw (re, e) tt
    by (Some i) e = rw (re, e) (found_within t d f i fe e)

module _ (t : List ℕ) (d : Address) (k : Result ℕ Refusal) (ke : forget_decision t k ≡ forget t d) where
  pub forgotten : (done : ⊤) (i : ℕ) → k ≡ Ok i → (r : TableRow) → r ≡ free_row → (u : List ℕ) → u ≡ put_row t i r
      → table_exit_of (Ok done) u ≡ table_at_exit t (forget t d)
  forgotten done i at_i r re u ue = let e = rw at_i at ke in cc

  pub not_forgotten : (n : Refusal) → k ≡ Err n → table_exit_of (Err n) t ≡ table_at_exit t (forget t d)
  not_forgotten n refusal = let e = rw refusal at ke in cc

-- ---- find a next hop

module _ (t : List ℕ) (c : ℕ) (d : Address) (a : Bool) (ae : a ≡ sized t) where
  pub hop_1 : not a ≡ true → Err TableLength ≡ next_hop t c d
  unfolding next_hop
  hop_1 no_a = cc

  module _ (yes_a : not a ≡ false) where
    pub hop_3 : 281474976710655 < c → Err ClockTooLarge ≡ next_hop t c d
    unfolding next_hop
    hop_3 l = cc (lt-ltb 281474976710655 c l)

    module _ (in_time : c ≤ 281474976710655) (b : Bool) (be : b ≡ individual d) where
      pub hop_9 : not b ≡ true → Err BadAddress ≡ next_hop t c d
      unfolding next_hop
      hop_9 no_b = cc (le-ltb 281474976710655 c in_time)

      module _ (yes_b : not b ≡ false) (e : Bool) (ee : e ≡ is_table t) where
        pub hop_21 : not e ≡ true → Err NotATable ≡ next_hop t c d
        unfolding next_hop
        hop_21 no-e = cc (le-ltb 281474976710655 c in_time)

        module _ (yes_e : not e ≡ false) (h : Head) (he : h ≡ head_at t) where
          pub hop_22 : c < h.clock → Err OldClock ≡ next_hop t c d
          unfolding next_hop
          hop_22 l = cc (le-ltb 281474976710655 c in_time, lt-ltb c h.clock l)

          module _ (in_order : h.clock ≤ c) (n : Option Address) (ne : n ≡ active_next c (row_for t d)) where
            pub hop_found : (r : Decision Address) → r ≡ ok_or n NoNextHop → r ≡ next_hop t c d
            unfolding next_hop
            hop_found r re = by n ne re
              where
                by : (m : Option Address) → m ≡ active_next c (row_for t d) → r ≡ ok_or m NoNextHop → r ≡ next_hop t c d
                by None me re = cc (le-ltb 281474976710655 c in_time, le-ltb c h.clock in_order)
                by (Some next) me re = cc (le-ltb 281474976710655 c in_time, le-ltb c h.clock in_order)
