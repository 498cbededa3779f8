-- A held row stays held under the steps that change it.
use Prim.Native.Nat.{◌+◌, ◌^◌, ◌<◌, ◌≤◌}
use mathlib.Core.Path.{◌≡◌}
use mathlib.Core.Bool.{Bool, true, ◌&&◌, ◌||◌, and-eq-true_iff}
use lib.Dec.{eqb}
use native.Mathlib.Omega.{arith}
use borrow.Author.Tests.{eqb-true, eq-eqb, leb-true, le-leb}
use Rattle.counters.specs.declared.SequenceNumber.{SequenceNumber}
use Rattle.layout.specs.declared.address.Address.{Address}
use Rattle.layout.specs.declared.row.Row.{Row}
use Rattle.layout.specs.Row.{unreachable, is_unnumbered, is_other, status_ok, bounds_ok, is_held, invalidated, raised}
use Rattle.layout.proofs.HeadAndRows.{FitRow}

both : {a b : Bool} → (a && b) ≡ true → (a ≡ true) × (b ≡ true)
both {a} {b} e = (and-eq-true_iff a b).0 e

-- `is_held`, clause by clause.
pub record Held (a : Address) (r : Row) : Type 0 where
  pub status : (1 ≤ r.status) × (r.status ≤ 2)
  pub known : r.known ≤ 1
  pub zero : r.zero ≡ 0
  pub destination : is_other a r.destination ≡ true
  pub next : is_other a r.next ≡ true
  pub metric : 1 ≤ r.metric.0
  pub expiry : r.expiry ≤ 2 ^ 48 + 2 ^ 32
  pub numbered : (eqb r.known 1 || is_unnumbered r) ≡ true

module _ (a : Address) (r : Row) where
  pub held_says : is_held a r ≡ true → Held a r
  unfolding is_held status_ok bounds_ok
  held_says e =
      let l₁ = both e in
      let l₂ = both l₁.0 in
      let l₃ = both l₂.0 in
      let l₄ = both l₃.0 in
      let s₁ = both l₄.0 in
      let s₂ = both s₁.0 in
      let s₃ = both s₂.0 in
      let b = both l₂.1 in
      record {
        status = (leb-true 1 r.status s₃.0, leb-true r.status 2 s₃.1);
        known = leb-true r.known 1 s₂.1;
        zero = eqb-true r.zero 0 s₁.1;
        destination = l₄.1;
        next = l₃.1;
        metric = leb-true 1 r.metric.0 b.0;
        expiry = leb-true r.expiry (2 ^ 48 + 2 ^ 32) b.1;
        numbered = l₁.1;
      }

  pub held_is : Held a r → is_held a r ≡ true
  unfolding is_held status_ok bounds_ok
  held_is h =
      rw (
        le-leb 1 r.status h.status.0,
        le-leb r.status 2 h.status.1,
        le-leb r.known 1 h.known,
        eq-eqb r.zero 0 h.zero,
        h.destination,
        h.next,
        le-leb 1 r.metric.0 h.metric,
        le-leb r.expiry (2 ^ 48 + 2 ^ 32) h.expiry,
      )
      h.numbered

-- ---- the steps that a lost row takes

module _ (r : Row) where
  pub invalid_fits : FitRow r → FitRow (invalidated r)
  unfolding invalidated
  invalid_fits f = let status : 2 < 256 ^ 1 = omega arith in search (f, status)

  pub raised_fits : (n : SequenceNumber) → n.0 < 256 ^ 4 → FitRow r → FitRow (raised n r)
  unfolding raised
  raised_fits n small f = let metric : unreachable.0 < 256 ^ 4 = omega arith in search (f, small, metric)

  module _ (a : Address) (h : Held a r) where
    pub invalid_held : Held a (invalidated r)
    unfolding invalidated is_unnumbered
    invalid_held =
        record {
          status = (omega arith, omega arith);
          known = h.known;
          zero = h.zero;
          destination = h.destination;
          next = h.next;
          metric = h.metric;
          expiry = h.expiry;
          numbered = h.numbered;
        }

    -- A row stays held when it is raised, if its number is known.
    pub raised_held : (n : SequenceNumber) → eqb r.known 1 ≡ true → Held a (raised n r)
    unfolding raised
    raised_held n k =
        record {
          status = h.status;
          known = h.known;
          zero = h.zero;
          destination = h.destination;
          next = h.next;
          metric = omega arith;
          expiry = h.expiry;
          numbered = rw k;
        }
