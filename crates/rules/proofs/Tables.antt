-- Laws of the table before and after a call.
use Prim.Native.Nat.{ℕ, ◌-◌, ◌^◌, ◌<◌, ◌≤◌}
use mathlib.Core.Path.{◌≡◌, refl, sym, ap, ◌∙◌}
use mathlib.Core.Bool.{true, false, not, ◌&&◌, and-eq-true_iff}
use mathlib.Core.List.{List}
use lib.Dec.{eqb, leb}
use lib.ListN.{length}
use native.Mathlib.Omega.{arith}
use borrow.Author.Tests.{not-false, leb-true, le-leb}
use Rattle.octets.specs.LittleEndian.{Octets}
use Rattle.counters.specs.declared.SequenceNumber.{SequenceNumber}
use Rattle.counters.specs.declared.RequestId.{RequestId}
use Rattle.layout.specs.declared.row.Head.{Head}
use Rattle.layout.specs.Address.{individual}
use Rattle.layout.specs.Row.{head_ok, head_with}
use Rattle.layout.specs.Layout.{sized, head_at, put_head, head_octets}
use Rattle.table.specs.Table.{own, number, request_id, clock, is_table}
use Rattle.table.proofs.Cases.{of_size}
use Rattle.layout.proofs.HeadAndRows.{FitHead, head_fits, head_same, head_octets_lem, length_head}
use Rattle.table.proofs.Heads.{head_legal}
use Rattle.table.proofs.WellFormed.{Legal, legal_of}

-- States that octets are a table, as a call knows once refusals 1 and 21 are passed.
pub record Whole (t : List ℕ) : Type 0 where
  pub octets : Octets t
  pub long : head_octets ≤ length t
  pub legal : Legal t

pub whole : (t : List ℕ) → Octets t → not (sized t) ≡ false → not (is_table t) ≡ false → Whole t
whole t o size table =
    record {
      octets = o;
      long = (of_size t (sized t) refl (not-false (sized t) size)).with_head;
      legal = legal_of t (not-false (is_table t) table);
    }

-- States that u is a table with the head and the length of t.
pub record Keeps (t u : List ℕ) : Type 0 where
  pub whole : Whole u
  pub head : head_at u ≡ head_at t
  pub length : length u ≡ length t

-- States that u is a table with the own address and the length of t. Own number, request ID and latest clock may differ.
pub record Leaves (t u : List ℕ) : Type 0 where
  pub whole : Whole u
  pub own : own u ≡ own t
  pub length : length u ≡ length t

-- ---- the numbers in a head

module _ (t : List ℕ) (w : Whole t) where
  pub own_fits : (own t).0 < 256 ^ 6
  own_fits = (head_fits t w.octets).own

  pub number_fits : (number t).0 < 256 ^ 4
  number_fits = (head_fits t w.octets).number

  pub request_fits : (request_id t).0 < 256 ^ 4
  request_fits = (head_fits t w.octets).request

  -- The latest clock is at most 2^48 - 1.
  pub clock_small : clock t ≤ 2 ^ 48 - 1
  unfolding head_ok
  clock_small =
      let h : Head = head_at t in
      let all = (and-eq-true_iff (individual h.own) (eqb h.zero2 0 && leb h.clock (2 ^ 48 - 1) && eqb h.zero8 0)).0 w.legal.head in
      let zeros = (and-eq-true_iff (eqb h.zero2 0 && leb h.clock (2 ^ 48 - 1)) (eqb h.zero8 0)).0 all.1 in
      leb-true h.clock (2 ^ 48 - 1) ((and-eq-true_iff (eqb h.zero2 0) (leb h.clock (2 ^ 48 - 1))).0 zeros.0).1

-- ---- the head that a call writes

module _ (t u : List ℕ) (w : Whole t) (k : Keeps t u) (n : SequenceNumber) (i : RequestId) (c : ℕ)
    (n_fits : n.0 < 256 ^ 4) (i_fits : i.0 < 256 ^ 4) (c_small : c ≤ 2 ^ 48 - 1) where
  abbrev new : Head
  new = head_with n i c (head_at t)

  new_fits : FitHead new
  unfolding head_with
  new_fits =
      let f = head_fits t w.octets in
      record { own = f.own; zero2 = f.zero2; number = n_fits; request = i_fits; clock = omega arith; zero8 = f.zero8 }

  new_ok : head_ok new ≡ true
  unfolding head_ok head_with
  new_ok =
      let h : Head = head_at t in
      let all = (and-eq-true_iff (individual h.own) (eqb h.zero2 0 && leb h.clock (2 ^ 48 - 1) && eqb h.zero8 0)).0 w.legal.head in
      let zeros = (and-eq-true_iff (eqb h.zero2 0 && leb h.clock (2 ^ 48 - 1)) (eqb h.zero8 0)).0 all.1 in
      let first = (and-eq-true_iff (eqb h.zero2 0) (leb h.clock (2 ^ 48 - 1))).0 zeros.0 in
      rw (all.0, first.0, le-leb c (2 ^ 48 - 1) c_small, zeros.1)

  pub head_number : number (put_head u new) ≡ n
  unfolding head_with
  head_number = ap (λ (h : Head). h.number) (head_same u new k.whole.long new_fits)

  pub head_leaves : Leaves t (put_head u new)
  unfolding head_with
  head_leaves =
      let long : head_octets ≤ length u = k.whole.long in
      record {
        whole = record {
          octets = head_octets_lem u new k.whole.octets;
          long = rw length_head long;
          legal = head_legal u new long new_fits new_ok (ap (λ (h : Head). h.own) (sym k.head)) k.whole.legal;
        };
        own = ap (λ (h : Head). h.own) (head_same u new long new_fits);
        length = length_head u new ∙ k.length;
      }
