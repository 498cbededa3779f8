-- Fresh and forget leave octets that are a table (refusal 21). `CallsKeep` has the other calls.
use Rattle.std.specs.Prelude.{Ok}
use Prim.Native.Nat.{ℕ, ◌^◌, ◌<◌}
use mathlib.Core.Path.{◌≡◌, refl}
use mathlib.Core.Bool.{true}
use mathlib.Core.List.{List}
use lib.ListN.{length}
use borrow.Author.Tests.{not-false}
use Rattle.octets.specs.LittleEndian.{Octets}
use Rattle.counters.specs.declared.SequenceNumber.{SequenceNumber}
use Rattle.layout.specs.declared.address.Address.{Address}
use Rattle.layout.specs.Address.{individual}
use Rattle.layout.specs.Layout.{sized}
use Rattle.table.specs.Table.{is_table, freed}
use Rattle.table.proofs.WellFormed.{Legal, legal_of, legal_is}
use Rattle.table.proofs.Cases.{of_size}
use Rattle.table.proofs.Heads.{fresh_table, fresh_octets, fresh_length}
use Rattle.table.proofs.Lookup.{freed_legal, freed_octets, freed_length}
use Rattle.rules.specs.Decision.{Check}
use Rattle.rules.specs.Fresh.{making_fresh, make_fresh}
use Rattle.rules.specs.Forget.{forgetting, forget}
use Rattle.rules.proofs.Rulings.{passed, passed_check}

-- The address has six octets and the number four, as the types of C guarantee.
pub fresh_stays : (t u : List ℕ) (own : Address) (number : SequenceNumber) → own.0 < 256 ^ 6 → number.0 < 256 ^ 4
    → make_fresh t own number ≡ Ok u → Octets u × (is_table u ≡ true) × (length u ≡ length t)
unfolding make_fresh
fresh_stays t u own number own_fits number_fits e =
    let p = passed (making_fresh t own number) u e in
    let checks : List Check = (making_fresh t own number).checks in
    let long = (of_size t (sized t) refl (not-false (sized t) (passed_check 1 checks p.0))).with_head in
    rw (← p.1) (
      fresh_octets (length t) own number,
      fresh_table (length t) own number long own_fits number_fits (not-false (individual own) (passed_check 9 checks p.0)),
      fresh_length (length t) own number,
    )

pub forget_stays : (t u : List ℕ) (d : Address) → Octets t → forget t d ≡ Ok u → Octets u × (is_table u ≡ true) × (length u ≡ length t)
unfolding forget
forget_stays t u d o e =
    let p = passed (forgetting t d) u e in
    let legal : Legal t = legal_of t (not-false (is_table t) (passed_check 21 (forgetting t d).checks p.0)) in
    rw (← p.1) (freed_octets t d o, legal_is (freed t d) (freed_legal t d legal), freed_length t d)
