-- Laws of a table by its parts, and of the row of a destination by its place.
use Rattle.std.specs.Prelude.{Some, None, Option}
use Prim.Native.Nat.{ℕ, ◌<◌}
use mathlib.Core.Path.{◌≡◌, refl, ap}
use mathlib.Core.Bool.{Bool, true, false, not, and-eq-true_iff}
use mathlib.Core.List.{List}
use mathlib.Core.Logic.{◌⊎◌, inl, inr}
use native.Mathlib.Decide.{ℕ_discrete}
use native.Mathlib.Omega.{arith, ne_cases}
use borrow.Author.Tests.{eqb-true, eqb-false, eq-eqb, ne_eqb, not-true}
use Rattle.octets.proofs.Tests.{clash}
use Rattle.layout.specs.declared.address.Address.{Address}
use Rattle.layout.specs.Address.{same}
use Rattle.layout.specs.Row.{head_ok, row_ok}
use Rattle.layout.specs.Layout.{rows, row_at, head_at}
use Rattle.table.specs.Places.{first, every}
use Rattle.table.specs.Table.{own, vacant, holds, alone, passes, is_table}
use Rattle.table.proofs.Places.{every_at, every_of, first_not, first_nowhere}

-- ---- tests

pub true_not_false : {b : Bool} → b ≡ true → b ≡ false → ⊥
true_not_false p q = clash cc

pub false_of : (b : Bool) → (b ≡ true → ⊥) → b ≡ false
false_of true h = absurd (h refl)
false_of false h = refl

-- ---- addresses

pub address_is : (a b : Address) → a.0 ≡ b.0 → a ≡ b
address_is a b e = ap {B = Address} (λ x. record { 0 = x }) e

pub same_is : (a b : Address) → same a b ≡ true → a ≡ b
same_is a b e = address_is a b (eqb-true a.0 b.0 e)

pub same_itself : (a : Address) → same a a ≡ true
same_itself a = eq-eqb a.0 a.0 refl

pub differ : (a b : Address) → (a ≡ b → ⊥) → same a b ≡ false
differ a b n = ne_eqb a.0 b.0 (λ e. n (address_is a b e))

pub not_same : (a b : Address) → same a b ≡ false → a ≡ b → ⊥
not_same a b e q = eqb-false a.0 b.0 e (ap (λ (x : Address). x.0) q)

pub equal_or_not : (a b : Address) → (a ≡ b) ⊎ (a ≡ b → ⊥)
equal_or_not a b = by (same a b) refl
  where
    by : (c : Bool) → same a b ≡ c → (a ≡ b) ⊎ (a ≡ b → ⊥)
    by true e = inl (same_is a b e)
    by false e = inr (not_same a b e)

-- ---- a row that is held for a destination

module _ (t : List ℕ) (d : Address) (k : ℕ) where
  pub held_row : holds t d k ≡ true → (vacant t k ≡ false) × ((row_at t k).destination ≡ d)
  unfolding holds
  held_row e =
      let both = (and-eq-true_iff (same (row_at t k).destination d) (not (vacant t k))).0 e in
      (not-true (vacant t k) both.1, same_is (row_at t k).destination d both.0)

  pub holds_of : vacant t k ≡ false → (row_at t k).destination ≡ d → holds t d k ≡ true
  unfolding holds
  holds_of v e = rw (v, e, same_itself d)

-- ---- a table

-- What `is_table` says about the head, about each row, and about two rows.
pub record Legal (t : List ℕ) : Type 0 where
  pub head : head_ok (head_at t) ≡ true
  pub row : (k : ℕ) → k < rows t → row_ok (own t) (row_at t k) ≡ true
  -- The destinations of any two held rows differ.
  pub once : (d : Address) (j k : ℕ) → j < rows t → k < rows t → holds t d j ≡ true → holds t d k ≡ true → j ≡ k

-- If a held row stands alone, the search of the rows before it finds nothing.
alone_first : (t : List ℕ) (k : ℕ) → alone t k ≡ true → vacant t k ≡ false → first (holds t (row_at t k).destination) k ≡ None
unfolding alone
alone_first t k a v = go (first (holds t (row_at t k).destination) k) refl
  where
    go : (f : Option ℕ) → first (holds t (row_at t k).destination) k ≡ f → first (holds t (row_at t k).destination) k ≡ None
    go None e = e
    go (Some j) e = clash cc

-- If row k stands alone, no row before it is held for the destination that row k is held for.
not_before : (t : List ℕ) (d : Address) (j k : ℕ) → alone t k ≡ true → j < k → holds t d j ≡ true → holds t d k ≡ true → ⊥
not_before t d j k a l hj hk =
    let row = held_row t d k hk in
    let none = first_not (holds t (row_at t k).destination) k j (alone_first t k a row.0) l in
    true_not_false hj (rw row.1 at none)

-- If every row passes, row k is legal and stands alone.
row_passes : (t : List ℕ) (k : ℕ) → every (passes t (own t)) (rows t) ≡ true → k < rows t → (row_ok (own t) (row_at t k) ≡ true) × (alone t k ≡ true)
row_passes t k e l = (and-eq-true_iff (row_ok (own t) (row_at t k)) (alone t k)).0 (every_at (passes t (own t)) (rows t) k e l)

once_of : (t : List ℕ) → every (passes t (own t)) (rows t) ≡ true → (d : Address) (j k : ℕ) → j < rows t → k < rows t
    → holds t d j ≡ true → holds t d k ≡ true → j ≡ k
once_of t e d j k lj lk hj hk = by (ℕ_discrete j k)
  where
    by : Dec (j ≡ k) → j ≡ k
    by (yes q) = q
    by (no q) =
        ne_cases j k (j ≡ k) q
        (λ l. absurd (not_before t d j k (row_passes t k e lk).1 l hj hk))
        (λ l. absurd (not_before t d k j (row_passes t j e lj).1 l hk hj))

pub legal_of : (t : List ℕ) → is_table t ≡ true → Legal t
unfolding is_table
legal_of t e =
    let both = (and-eq-true_iff (head_ok (head_at t)) (every (passes t (own t)) (rows t))).0 e in
    record { head = both.0; row = λ k l. (row_passes t k both.1 l).0; once = once_of t both.1 }

pub legal_is : (t : List ℕ) → Legal t → is_table t ≡ true
unfolding is_table alone
legal_is t h = rw (h.head, every_of (passes t (own t)) (rows t) (λ k l. rw (h.row k l) (by k l (vacant t k) refl)))
  where
    by : (k : ℕ) → k < rows t → (b : Bool) → vacant t k ≡ b → alone t k ≡ true
    by k l true e = rw e
    by k l false e =
        let d = (row_at t k).destination in
        rw (
          e,
          first_nowhere (holds t d) k
              (λ j g. false_of (holds t d j) (λ hj. let q = h.once d j k (omega arith) l hj (holds_of t d k e refl) in omega arith)),
        )
