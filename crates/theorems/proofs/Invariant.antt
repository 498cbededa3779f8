-- The invariant `Inv` of a mesh towards one destination d, and the property `Fine` of an accepted call that keeps the
-- invariant.
--     rooted    Each valid row for d leads to d itself, or to a point that has sent a path strictly better than the row.
--     backed    Each path for d that was ever sent still stands: its sender is d, or holds a row at least as good as the path.
--     absent    d holds no row for itself.
-- This file uses nothing of the rules of the calls.
use Rattle.std.specs.Prelude.{Ok, Option, None, Some}
use Prim.Native.Nat.{ℕ}
use mathlib.Core.Path.{◌≡◌, refl, sym, ap, subst, ◌∙◌}
use mathlib.Core.Bool.{true}
use mathlib.Core.List.Memᴰ
use mathlib.Core.List.{List, [], ◌∷◌, ◌++◌, Memᴰ}
use Rattle.std.proofs.lemmas.Option.{none-some, same_Some}
use mathlib.Core.Logic.{◌⊎◌, ⊎_elim, ⊎_map}
use lib.Dec.{eqb}
use Rattle.counters.specs.declared.SequenceNumber.{SequenceNumber}
use Rattle.counters.proofs.Rank.{AtLeast, Above}
use Rattle.layout.specs.declared.address.Address.{Address}
use Rattle.layout.specs.declared.row.Row.{Row}
use Rattle.table.specs.Table.{own, row_for}
use Rattle.table.proofs.WellFormed.{equal_or_not}
use Rattle.element.specs.declared.PathInfo.{PathInfo}
use Rattle.element.specs.Octets.{read_element, write_element}
use Rattle.element.specs.Entries.{All}
use Rattle.element.proofs.ReadBack.{read_back}
use Rattle.rules.specs.Exit.{Frame, Lent, Effect}
use Rattle.rules.specs.Receive.{path_of}
use Rattle.rules.proofs.AsGood.{InWindow}
use Rattle.rules.proofs.Sending.{FrameFits, FramesFit}
use Rattle.theorems.specs.Mesh.{Sent, Mesh, box_of, with_box, sent_by, after_call}
use Rattle.theorems.proofs.Boxes.{box_own, box_same, box_other}

-- ---- one row, held or not

-- If there is a row and its number is known, the number lies in the window.
abbrev pub Near : ℕ → Option Row → Type 0
Near base o = (r : Row) → o ≡ Some r → InWindow base r

-- There is a row, its number is known, and it is at least as good as number n with metric m.
pub record Stands (base : ℕ) (o : Option Row) (n : SequenceNumber) (m : ℕ) : Type 0 where
  pub row : Row
  pub found : o ≡ Some row
  pub known : eqb row.known 1 ≡ true
  pub good : AtLeast base row.number row.metric.0 n m

-- Returns the path in the octets of an element, or none for a RERR.
abbrev pub path_in : List ℕ → Option PathInfo
path_in s = path_of (read_element s)

-- The point a has sent a path for d that is strictly better than number n with metric m.
pub record HasSent (d : Address) (base : ℕ) (log : List Sent) (a : Address) (n : SequenceNumber) (m : ℕ) : Type 0 where
  pub sent : Sent
  pub logged : Memᴰ sent log
  pub by : sent.sender ≡ a
  pub path : PathInfo
  pub is_some_and : path_in sent.octets ≡ Some path
  pub about : path.subject ≡ d
  pub better : Above base path.number path.metric.0 n m

-- The next hop of the row r is d, or has sent a path for d that is strictly better than r.
pub data Leads (d : Address) (base : ℕ) (log : List Sent) (r : Row) : Type 0 where
  home : r.next ≡ d → Leads d base log r
  nearer : HasSent d base log r.next r.number r.metric.0 → Leads d base log r

-- If there is a row and it is valid, it leads to d.
abbrev pub Rooted : Address → ℕ → List Sent → Option Row → Type 0
Rooted d base log o = (r : Row) → o ≡ Some r → eqb r.status 1 ≡ true → Leads d base log r

-- If k is a path for d, then a is d, or the row o of the point a is at least as good as the path.
abbrev pub Backed : Address → ℕ → Address → Option Row → Option PathInfo → Type 0
Backed d base a o k = (p : PathInfo) → k ≡ Some p → p.subject ≡ d → (a ≡ d) ⊎ Stands base o p.number p.metric.0

-- ---- one call

-- A call turns the row o into o'. If o is at least as good as some number and metric, o' is too. If o is rooted, o' is too.
pub record Move (d : Address) (base : ℕ) (log : List Sent) (o o' : Option Row) : Type 0 where
  pub keeps : {n : SequenceNumber} {m : ℕ} → Stands base o n m → Stands base o' n m
  pub rooted : Rooted d base log o → Rooted d base log o'

-- A call on the table t with effect e moves the row for d as the invariant asks, brings d no row for itself, and emits only
-- paths that are backed.
pub record Sound (d : Address) (base : ℕ) (log : List Sent) (t : List ℕ) (e : Effect) : Type 0 where
  pub move : Move d base log (row_for t d) (row_for e.lent.table d)
  pub absent : own t ≡ d → row_for t d ≡ None → row_for e.lent.table d ≡ None
  pub backed : All (λ (f : Frame). Backed d base (own t) (row_for e.lent.table d) (path_of f.element)) e.frames

-- A call keeps the own address, and its frames fit. It is sound if a known number in the row that it leaves lies in the window.
pub record Fine (d : Address) (base : ℕ) (log : List Sent) (t : List ℕ) (e : Effect) : Type 0 where
  pub own : own e.lent.table ≡ own t
  pub frames : FramesFit e.frames
  pub sound : Near base (row_for e.lent.table d) → Sound d base log t e

pub stay : {d : Address} {base : ℕ} {log : List Sent} (o : Option Row) → Move d base log o o
stay o = record { keeps = λ st. st; rooted = λ h. h }

pub rooted_row : {d : Address} {base : ℕ} {log : List Sent} {o : Option Row} (r : Row) → o ≡ Some r → Leads d base log r → Rooted d base log o
rooted_row {d} {base} {log} r e lead q found valid =
    subst (λ (x : Row). Leads d base log x) (same_Some r q (sym e ∙ found)) lead

pub backed_path : {d : Address} {base : ℕ} {a : Address} {o : Option Row} (p : PathInfo)
    → (p.subject ≡ d → (a ≡ d) ⊎ Stands base o p.number p.metric.0) → Backed d base a o (Some p)
backed_path {d} {base} {a} {o} p h q is_some_and =
    subst (λ (x : PathInfo). x.subject ≡ d → (a ≡ d) ⊎ Stands base o x.number x.metric.0) (same_Some p q is_some_and) h

pub backed_none : {d : Address} {base : ℕ} {a : Address} {o : Option Row} → Backed d base a o None
backed_none p is_some_and about = absurd (none-some p is_some_and)

-- ---- the row for d at a point

abbrev pub row_of : Address → Option Lent → Option Row
row_of d None = None
row_of d (Some l) = row_for l.table d

unfoldable pub row_at : Address → List Lent → Address → Option Row
row_at d boxes a = row_of d (box_of a boxes)

-- The row r for d stands in the table of the point a.
pub record RowAt (d : Address) (boxes : List Lent) (a : Address) (r : Row) : Type 0 where
  pub box : Lent
  pub at : box_of a boxes ≡ Some box
  pub found : row_for box.table d ≡ Some r

pub row_at_lem : (d : Address) (boxes : List Lent) (a : Address) (r : Row) → row_at d boxes a ≡ Some r → RowAt d boxes a r
unfolding row_at
row_at_lem d boxes a r = go (box_of a boxes) refl
  where
    go : (o : Option Lent) → box_of a boxes ≡ o → row_of d o ≡ Some r → RowAt d boxes a r
    go None e h = absurd (none-some r h)
    go (Some l) e h = record { box = l; at = e; found = h }

-- ---- the invariant, and a fine call

pub record Inv (d : Address) (base : ℕ) (m : Mesh) : Type 0 where
  pub rooted : (a : Address) → Rooted d base m.log (row_at d m.boxes a)
  pub backed : (s : Sent) → Memᴰ s m.log → Backed d base s.sender (row_at d m.boxes s.sender) (path_in s.octets)
  pub absent : row_at d m.boxes d ≡ None

pub all_at : {A : Type 0} (P : A → Type 0) {x : A} (l : List A) → All P l → Memᴰ x l → P x
unfolding All
all_at P [] h m = absurd (Memᴰ.not-nil m)
all_at P {x} (y ∷ l) h m = ⊎_elim (λ e. rw e h.0) (λ k. all_at P l h.1 k) (Memᴰ.cases_cons m)

-- The log only grows, so a row that leads to d still leads to d.
longer : {d : Address} {base : ℕ} {log : List Sent} (more : List Sent) {r : Row} → Leads d base log r → Leads d base (log ++ more) r
longer more (home e) = home e
longer more (nearer k) =
    nearer
    (record {
      sent = k.sent;
      logged = Memᴰ.append_left more k.logged;
      by = k.by;
      path = k.path;
      is_some_and = k.is_some_and;
      about = k.about;
      better = k.better;
    })

module _ (d : Address) (base : ℕ) (m : Mesh) (inv : Inv d base m) (a : Address) (l : Lent) (e : Effect) (here : box_of a m.boxes ≡ Some l)
    (fine : Fine d base m.log l.table e) (near : Near base (row_at d (with_box a e.lent m.boxes) a)) where
  is_a : own l.table ≡ a
  is_a = box_own a m.boxes l here

  row : row_at d m.boxes a ≡ row_for l.table d
  unfolding row_at
  row = rw here

  boxes' : List Lent
  boxes' = with_box a e.lent m.boxes

  row_same : row_at d boxes' a ≡ row_for e.lent.table d
  unfolding row_at boxes' is_a
  row_same = rw (box_same a e.lent (fine.own ∙ is_a) m.boxes l here)

  row_other : (b : Address) → (a ≡ b → ⊥) → row_at d boxes' b ≡ row_at d m.boxes b
  unfolding row_at boxes' is_a
  row_other b apart = rw (box_other a e.lent (fine.own ∙ is_a) b apart m.boxes)

  sound : Sound d base m.log l.table e
  unfolding boxes'
  sound = fine.sound (rw row_same at near)

  -- If P holds for the row that the call leaves, and held for all rows before the call, then P holds for all rows after the
  -- call.
  each : (P : Address → Option Row → Type 0) → P a (row_for e.lent.table d) → ((b : Address) → P b (row_at d m.boxes b))
      → (b : Address) → P b (row_at d boxes' b)
  each P at elsewhere b =
      ⊎_elim (λ q. subst (λ (x : Address). P x (row_at d boxes' x)) q (rw row_same at))
      (λ apart. rw (row_other b apart) (elsewhere b)) (equal_or_not a b)

  abbrev BackedNow : Sent → Type 0
  BackedNow s = Backed d base s.sender (row_at d boxes' s.sender) (path_in s.octets)

  still_backed : (s : Sent) → Memᴰ s m.log → BackedNow s
  still_backed s k =
      each (λ b o. s.sender ≡ b → Backed d base s.sender o (path_in s.octets))
      (λ q p is_some_and about. ⊎_map (λ x. x) (λ st. sound.move.keeps (rw (q, row) at st)) (inv.backed s k p is_some_and about))
      (λ b q. rw (← q) (inv.backed s k))
      s.sender refl

  -- Reading the octets in the log gives back the element of the frame.
  frame_backed : (f : Frame) → Memᴰ f e.frames → BackedNow (record { sender = a; octets = write_element f.element })
  frame_backed f k =
      rw (row_same, ← is_a, read_back f.element (all_at FrameFits e.frames fine.frames k).element)
      (all_at (λ (g : Frame). Backed d base (own l.table) (row_for e.lent.table d) (path_of g.element)) e.frames sound.backed k)

  newly_backed : (s : Sent) → Memᴰ s (sent_by a e.frames) → BackedNow s
  unfolding sent_by
  newly_backed s k =
      let q : (f : Frame) × Memᴰ f e.frames × (record { sender = a; octets = write_element f.element } ≡ s) = Memᴰ.of_map _ e.frames k in
      subst BackedNow q.2 (frame_backed q.0 q.1)

  pub inv_after : Inv d base (after_call m a (Ok e))
  unfolding after_call boxes'
  inv_after =
      record {
        rooted = λ b r found valid. longer (sent_by a e.frames)
            (each (λ b o. Rooted d base m.log o) (sound.move.rooted (rw row at (inv.rooted a))) inv.rooted b r found valid);
        backed = λ s k. ⊎_elim (still_backed s) (newly_backed s) (Memᴰ.append_cases m.log k);
        absent = each (λ b o. b ≡ d → o ≡ None)
            (λ q. sound.absent (is_a ∙ q) (sym row ∙ ap (row_at d m.boxes) q ∙ inv.absent))
            (λ b q. ap (row_at d m.boxes) q ∙ inv.absent)
            d refl;
      }
