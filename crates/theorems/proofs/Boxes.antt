-- Laws of what the points of a mesh lend, found by address, after one entry of the list is replaced.
use Rattle.std.specs.Prelude.{Option, Some}
use mathlib.Core.Path.{◌≡◌, refl, sym, ap, ◌∙◌}
use mathlib.Core.Bool.{Bool, true, false, cond}
use mathlib.Core.List.{List, [], ◌∷◌, map, Memᴰ}
use Rattle.std.proofs.lemmas.Option.{none-some, same_Some}
use Rattle.layout.specs.declared.address.Address.{Address}
use Rattle.layout.specs.Address.{same}
use Rattle.table.specs.Table.{own}
use Rattle.table.proofs.WellFormed.{same_is, same_itself, differ}
use Rattle.rules.specs.Exit.{Lent}
use Rattle.rules.proofs.Branches.{cond_cases}
use Rattle.theorems.specs.Mesh.{box_of, with_box}

-- The table found for the address a has own address a.
pub box_own : (a : Address) (boxes : List Lent) (l : Lent) → box_of a boxes ≡ Some l → own l.table ≡ a
unfolding box_of
box_own a [] l = λ e. absurd (none-some l e)
box_own a (k ∷ boxes) l =
    cond_cases (λ (o : Option Lent). o ≡ Some l → own l.table ≡ a) (same (own k.table) a)
    (λ q e. ap (λ (x : Lent). own x.table) (sym (same_Some k l e)) ∙ same_is (own k.table) a q) (λ _. box_own a boxes l)

-- What is found for an address is an entry of the list.
pub box_listed : (a : Address) (boxes : List Lent) (l : Lent) → box_of a boxes ≡ Some l → Memᴰ l boxes
unfolding box_of
box_listed a [] l = λ e. absurd (none-some l e)
box_listed a (k ∷ boxes) l =
    cond_cases (λ (o : Option Lent). o ≡ Some l → Memᴰ l (k ∷ boxes)) (same (own k.table) a)
    (λ _ e. Memᴰ.head (sym (same_Some k l e))) (λ _ e. Memᴰ.tail (box_listed a boxes l e))

-- k also belongs to the point a, and replaces the entry of a.
module _ (a : Address) (k : Lent) (is : own k.table ≡ a) where
  pub box_same : (boxes : List Lent) (l : Lent) → box_of a boxes ≡ Some l → box_of a (with_box a k boxes) ≡ Some k
  unfolding box_of with_box
  box_same [] l e = absurd (none-some l e)
  box_same (h ∷ boxes) l e = by (same (own h.table) a) refl e (box_same boxes l)
    where
      by : (test : Bool) → same (own h.table) a ≡ test → cond test (Some h) (box_of a boxes) ≡ Some l
          → (box_of a boxes ≡ Some l → box_of a (with_box a k boxes) ≡ Some k)
          → box_of a (cond test (k ∷ boxes) (h ∷ with_box a k boxes)) ≡ Some k
      by true q e rest = rw (is, same_itself a)
      by false q e rest = rw q (rest e)

  pub box_other : (b : Address) → (a ≡ b → ⊥) → (boxes : List Lent) → box_of b (with_box a k boxes) ≡ box_of b boxes
  unfolding box_of with_box
  box_other b apart [] = refl
  box_other b apart (h ∷ boxes) = by (same (own h.table) a) refl (box_other b apart boxes)
    where
      by : (test : Bool) → same (own h.table) a ≡ test → box_of b (with_box a k boxes) ≡ box_of b boxes
          → box_of b (cond test (k ∷ boxes) (h ∷ with_box a k boxes)) ≡ cond (same (own h.table) b) (Some h) (box_of b boxes)
      by true q rest =
          rw (differ (own k.table) b (λ e. apart (sym is ∙ e)), differ (own h.table) b (λ e. apart (sym (same_is (own h.table) a q) ∙ e)))
      by false q rest = ap (cond (same (own h.table) b) (Some h)) rest

-- If f is equal on an entry and on its replacement, then f is equal on the whole lists.
pub box_alike : {A : Type 0} (f : Lent → A) (a : Address) (k : Lent) (boxes : List Lent) (l : Lent) → box_of a boxes ≡ Some l → f k ≡ f l
    → map f (with_box a k boxes) ≡ map f boxes
unfolding box_of with_box
box_alike f a k [] l e alike = refl
box_alike {A} f a k (h ∷ boxes) l e alike = by (same (own h.table) a) e (λ e. box_alike f a k boxes l e alike)
  where
    by : (test : Bool) → cond test (Some h) (box_of a boxes) ≡ Some l → (box_of a boxes ≡ Some l → map f (with_box a k boxes) ≡ map f boxes)
        → map f (cond test (k ∷ boxes) (h ∷ with_box a k boxes)) ≡ f h ∷ map f boxes
    by true e rest = ap (λ (x : A). x ∷ map f boxes) (alike ∙ ap f (sym (same_Some h l e)))
    by false e rest = ap (λ (xs : List A). f h ∷ xs) (rest e)
