-- Laws of the command that adds a point.
use Rattle.refusals.proofs.Laws.{never_0}
use Rattle.refusals.specs.Numbers.{answer_of, number_of}
use Rattle.refusals.specs.declared.Refusal.TheVariants.{TableLength, BadAddress}
use Rattle.refusals.specs.declared.Refusal.{Refusal}
use Prim.Native.Nat.{ℕ, ◌+◌, ◌-◌, ◌*◌, ◌<◌, ◌≤◌}
use mathlib.Core.Path.{◌≡◌, refl, sym, ap, ◌∙◌}
use mathlib.Core.Bool.{Bool, true, false, not, cond}
use mathlib.Core.List.{List}
use lib.Dec.{eqb}
use lib.ListN.{length, take, drop}
use native.Mathlib.Omega.{arith}
use borrow.Author.Tests.{le-ltb, lt-ltb, ne_eqb}
use borrow.Rule.Slice.PartMut.{put_mid, put_same}
use Rattle.std.specs.Prelude.{Ok, ⊤, Err}
use Rattle.counters.specs.declared.SequenceNumber.{SequenceNumber}
use Rattle.layout.specs.declared.address.Address.{Address}
use Rattle.layout.specs.Address.{individual}
use Rattle.layout.specs.Layout.{sized}
use Rattle.table.specs.Table.{fresh}
use Rattle.rules.specs.Decision.{Decision}
use Rattle.rules.specs.Exit.{TableExit, table_at_exit}
use Rattle.rules.specs.Fresh.{make_fresh}
use Rattle.rules.specs.Walk.{table_at}
use Rattle.calls.specs.Answers.{table_exit_of}
use Rattle.bench_rules.specs.Bench.{line}
use Rattle.bench_rules.specs.Commands.{add_point}
use Rattle.bench_points.specs.declared.Fault.{Fault}
use Rattle.bench_points.specs.InCode.{Adds}
use Rattle.bench_points.proofs.Lending.{lent_table, put_back}

-- The table is made exactly if the answer accepts, because no refusal has number 0.
module _ (t u : List ℕ) (own : Address) (number : SequenceNumber) (a : Decision ⊤) (ae : table_exit_of a u ≡ table_at_exit t (make_fresh t own number)) where
  abbrev by_checks : Bool → Bool → Decision (List ℕ)
  by_checks b d = cond b (Err TableLength) (cond d (Err BadAddress) (Ok (fresh (length t) own number)))

  -- States that a decision refuses with number n, and that the table stays as it was.
  record NotMade (d : Decision (List ℕ)) (n : ℕ) : Type 0 where
    refusal : Refusal
    is : d ≡ Err refusal
    numbered : number_of refusal ≡ n
    same : u ≡ t

  not_made : (r : Refusal) → a ≡ Err r → NotMade (make_fresh t own number) (number_of r)
  unfolding make_fresh
  not_made r e = by (not (sized t)) (not (individual own)) (rw e at ae)
    where
      by : (b d : Bool) → table_exit_of (Err r) u ≡ table_at_exit t (by_checks b d) → NotMade (by_checks b d) (number_of r)
      by true d e =
          record { refusal = TableLength; is = refl; numbered = sym (ap (λ (x : TableExit). x.answer) e); same = ap (λ (x : TableExit). x.table) e }
      by false true e =
          record { refusal = BadAddress; is = refl; numbered = sym (ap (λ (x : TableExit). x.answer) e); same = ap (λ (x : TableExit). x.table) e }
      by false false e = absurd (never_0 r (ap (λ (x : TableExit). x.answer) e))

  made : (done : ⊤) → a ≡ Ok done → make_fresh t own number ≡ Ok u
  unfolding make_fresh
  made done z = by (not (sized t)) (not (individual own)) (rw z at ae)
    where
      by : (b d : Bool) → table_exit_of (Ok done) u ≡ table_at_exit t (by_checks b d) → by_checks b d ≡ Ok u
      by true d e = let q = ap (λ (x : TableExit). x.answer) e in absurd (omega arith)
      by false true e = let q = ap (λ (x : TableExit). x.answer) e in absurd (omega arith)
      by false false e = ap (λ (v : List ℕ). Ok v) (sym (ap (λ (x : TableExit). x.table) e))

module _ (points : ℕ) (own : Address) (number : SequenceNumber) (tables : List ℕ) where
  pub seventeenth : 16 ≤ points → (e : Fault) → Adds (Err e) points own number tables tables
  unfolding Adds add_point
  seventeenth l e frames clock = rw (le-ltb points 16 l)

  abbrev place : ℕ
  place = 544 * points

  module _ (l : points < 16) (t u : List ℕ) (a : Decision ⊤) (ae : table_exit_of a u ≡ table_at_exit t (make_fresh t own number))
      (te : t ≡ take (place + 544 - place) (drop place tables)) (n : ℕ) (ne : n ≡ answer_of a) where
    table_is : t ≡ table_at tables 544 points
    table_is = te ∙ lent_table tables points

    abbrev Added : Type 0
    Added = Adds (Ok (record { answer = n; third = 0 })) points own number tables (put_mid place (place + 544 - place) tables u)

    not_added : (r : Refusal) → a ≡ Err r → Added
    unfolding Adds add_point
    not_added r e frames clock =
        let no = not_made t u own number a ae r e in
        let same : put_mid place (place + 544 - place) tables u ≡ tables =
        ap (put_mid place (place + 544 - place) tables) (no.same ∙ te) ∙ put_same place (place + 544 - place) tables in
        let nr : n ≡ number_of r = ne ∙ ap answer_of e in
        let more : eqb (number_of r) 0 ≡ false = ne_eqb (number_of r) 0 (never_0 r) in
        let stay : points + 0 ≡ points = omega arith in
        rw (same, lt-ltb points 16 l, ← table_is, no.is, no.numbered, nr, more)
        (ap (λ (k : ℕ). line (number_of r) 0 (record { tables = tables; points = k; frames = frames; clock = clock })) stay)

    table_made : (done : ⊤) → a ≡ Ok done → Added
    unfolding Adds add_point
    table_made done z frames clock =
        let zero : n ≡ 0 = ne ∙ ap answer_of z in
        rw (put_back tables u points, lt-ltb points 16 l, ← table_is, made t u own number a ae done z, zero)

    pub table_added : Added
    table_added = by a refl
      where
        by : (d : Decision ⊤) → a ≡ d → Added
        by (Err r) e = not_added r e
        by (Ok done) e = table_made done e
