-- Steps 1 and 2 of receiving, a break and a received RERR move the row for d as the invariant asks.
use Rattle.std.specs.Prelude.{Option, None, Some, option_map}
use Prim.Native.Nat.{ℕ, ◌^◌, ◌<◌}
use mathlib.Core.Path.{◌≡◌, refl, sym, ap, subst, ◌∙◌}
use mathlib.Core.Bool.{true, not, true≢false, and-eq-true_iff}
use mathlib.Core.List.{List, Memᴰ}
use Rattle.std.proofs.lemmas.Option.{same_Some}
use lib.Dec.{eqb}
use native.Mathlib.Nat.{le_refl}
use native.Mathlib.Omega.{arith}
use borrow.Author.Tests.{not-true}
use Rattle.counters.specs.declared.SequenceNumber.{SequenceNumber}
use Rattle.counters.proofs.Rank.{level, at_least_trans}
use Rattle.layout.specs.declared.address.Address.{Address}
use Rattle.layout.specs.declared.row.Row.{Row}
use Rattle.layout.specs.Address.{individual, same}
use Rattle.layout.specs.Row.{is_other, renewed, numbered}
use Rattle.table.specs.Table.{own, row_for}
use Rattle.table.proofs.WellFormed.{not_same}
use Rattle.element.specs.declared.PathInfo.{PathInfo}
use Rattle.rules.specs.declared.Arrival.{Arrival}
use Rattle.rules.specs.Learn.{metric_here, row_or_new, subject_row, transmitter_row, learnt}
use Rattle.rules.proofs.AsGood.{InWindow, path_no_worse, link_no_worse, Falls, stays, falls}
use Rattle.rules.proofs.Learning.{Heard, renewal, left, Learning, subject, other, learning}
use Rattle.theorems.specs.Mesh.{Sent}
use Rattle.theorems.proofs.Invariant.{Near, Stands, path_in, Leads, home, nearer, Rooted, Move, stay, rooted_row}

-- ---- a row that falls

module _ {d : Address} {base : ℕ} {log : List Sent} (small : base < 2 ^ 32) where
  falls_move : (r r' : Row) → Falls base small r r' → Move d base log (Some r) (Some r')
  falls_move r r' (stays e) = subst (λ (q : Row). Move d base log (Some r) (Some q)) (sym e) (stay (Some r))
  falls_move r r' (falls down known better) =
      record {
        keeps = λ st.
            let same_row : st.row ≡ r = sym (same_Some r st.row st.found) in
            let was : eqb r.known 1 ≡ true = rw same_row at st.known in
            record {
              row = r';
              found = refl;
              known = ap (λ k. eqb k 1) known ∙ was;
              good = at_least_trans (better was) (rw same_row at st.good);
            };
        rooted = λ h q found valid.
            absurd (true≢false (sym valid ∙ ap (λ (x : Row). eqb x.status 1) (sym (same_Some r' q found)) ∙ down));
      }

  pub changed_move : (f : Row → Row) → ((r : Row) → InWindow base r → InWindow base (f r) → Falls base small r (f r))
      → (o : Option Row) → Near base o → Near base (option_map f o) → Move d base log o (option_map f o)
  changed_move f fall None near near' = stay None
  changed_move f fall (Some r) near near' = falls_move r (f r) (fall r (near r refl) (near' (f r) refl))

-- ---- steps 1 and 2

-- The path p comes from the element s of the log, and the transmitter is the sender of s.
module _ (d : Address) (base : ℕ) (small : base < 2 ^ 32) (log : List Sent) (t : List ℕ) (a : Arrival) (p : PathInfo) (h : Heard t a p)
    (s : Sent) (logged : Memᴰ s log) (by : s.sender ≡ a.transmitter) (is_some_and : path_in s.octets ≡ Some p) where
  learnt_stands_on : (o' : Option Row) → Learning d a p (row_for t d) o' → Near base (row_for t d) → Near base o'
      → {n : SequenceNumber} {m : ℕ} → Stands base (row_for t d) n m → Stands base o' n m
  unfolding subject_row transmitter_row renewed numbered
  learnt_stands_on o' (subject e k) near near' st =
      record {
        row = subject_row a p (row_or_new d (row_for t d));
        found = k;
        known = refl;
        good = at_least_trans
            (path_no_worse base small t a p h.fresh st.row (ap (row_for t) e ∙ st.found) st.known
            (near' _ k refl) (near st.row st.found st.known))
            st.good;
      }
  learnt_stands_on o' (other apart (renewal e takes k)) near near' st =
      record {
        row = transmitter_row a p.lifetime st.row;
        found = rw st.found at k;
        known = st.known;
        good = at_least_trans (level refl (link_no_worse a st.row (rw st.found at takes) st.known)) st.good;
      }
  learnt_stands_on o' (other apart (left k)) near near' st = rw k st

  subject_leads : p.subject ≡ d → (old : Row) → Leads d base log (subject_row a p old)
  unfolding subject_row renewed numbered
  subject_leads e old =
      nearer
      (record { sent = s; logged = logged; by = by; path = p; is_some_and = is_some_and; about = e; better = level refl (omega (arith, h.link)) })

  transmitter_leads : a.transmitter ≡ d → (old : Row) → Leads d base log (transmitter_row a p.lifetime old)
  unfolding transmitter_row renewed
  transmitter_leads e old = home e

  learnt_rooted : (o o' : Option Row) → Learning d a p o o' → Rooted d base log o → Rooted d base log o'
  learnt_rooted o o' (subject e k) r = rooted_row _ k (subject_leads e (row_or_new d o))
  learnt_rooted o o' (other apart (renewal e takes k)) r = rooted_row _ k (transmitter_leads e (row_or_new d o))
  learnt_rooted o o' (other apart (left k)) r = rw k r

  pub learnt_move : Near base (row_for t d) → Near base (row_for (learnt a p t) d) → Move d base log (row_for t d) (row_for (learnt a p t) d)
  learnt_move near near' =
      record {
        keeps = learnt_stands_on (row_for (learnt a p t) d) (learning t a p h d) near near';
        rooted = learnt_rooted (row_for t d) (row_for (learnt a p t) d) (learning t a p h d);
      }

-- An address that passes `is_other` is not the own address.
other_not : (self x : Address) → is_other self x ≡ true → x ≡ self → ⊥
unfolding is_other
other_not self x e = not_same x self (not-true (same x self) ((and-eq-true_iff (individual x) (not (same x self))).0 e).1)

module _ (d : Address) (t : List ℕ) (a : Arrival) (p : PathInfo) (h : Heard t a p) where
  -- A point learns no row for itself.
  pub learnt_absent : own t ≡ d → row_for t d ≡ None → row_for (learnt a p t) d ≡ None
  learnt_absent self before = go (learning t a p h d)
    where
      go : Learning d a p (row_for t d) (row_for (learnt a p t) d) → row_for (learnt a p t) d ≡ None
      go (subject e k) = absurd (other_not (own t) p.subject h.subject (e ∙ sym self))
      go (other apart (renewal e takes k)) = absurd (other_not (own t) a.transmitter h.transmitter (e ∙ sym self))
      go (other apart (left k)) = k ∙ before

  subject_stands : (base : ℕ) (old : Row) {o' : Option Row} → o' ≡ Some (subject_row a p old) → Stands base o' p.number (metric_here a p).0
  unfolding subject_row renewed numbered
  subject_stands base old k = record { row = subject_row a p old; found = k; known = refl; good = level refl (le_refl (metric_here a p).0) }

  -- After steps 1 and 2, the row of the subject is at least as good as the path that is forwarded.
  pub learnt_stands : (base : ℕ) → p.subject ≡ d → Stands base (row_for (learnt a p t) d) p.number (metric_here a p).0
  learnt_stands base about = go (learning t a p h d)
    where
      go : Learning d a p (row_for t d) (row_for (learnt a p t) d) → Stands base (row_for (learnt a p t) d) p.number (metric_here a p).0
      go (subject e k) = subject_stands base (row_or_new d (row_for t d)) k
      go (other apart k) = absurd (apart about)
