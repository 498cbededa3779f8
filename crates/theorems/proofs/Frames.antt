-- Each path in a reply is the point's own, or the point's row is at least as good as the path.
use Rattle.std.specs.Prelude.{Option, Some}
use Prim.Native.Nat.{ℕ}
use mathlib.Core.Path.{◌≡◌, refl, sym, ap, ◌∙◌}
use mathlib.Core.Bool.{true}
use mathlib.Core.List.{List}
use mathlib.Core.Logic.{◌⊎◌, inl, inr}
use lib.Dec.{eqb}
use native.Mathlib.Nat.{le_refl}
use Rattle.counters.specs.declared.SequenceNumber.{SequenceNumber}
use Rattle.counters.specs.declared.HopCount.{HopCount}
use Rattle.counters.specs.declared.Metric.{Metric}
use Rattle.counters.specs.Numbers.{next_number}
use Rattle.counters.proofs.Rank.{level}
use Rattle.layout.specs.declared.address.Address.{Address}
use Rattle.layout.specs.declared.row.Row.{Row}
use Rattle.table.specs.Table.{own, row_for}
use Rattle.table.proofs.Lookup.{row_destination}
use Rattle.element.specs.declared.PathInfo.{PathInfo}
use Rattle.element.specs.declared.Target.{Target}
use Rattle.element.specs.Entries.{All}
use Rattle.rules.specs.Exit.{Frame}
use Rattle.rules.specs.declared.Arrival.{Arrival}
use Rattle.rules.specs.Destinations.{reply, all_answered}
use Rattle.rules.specs.Receive.{path_of}
use Rattle.rules.proofs.Emitting.{replies_emitted}
use Rattle.theorems.proofs.Invariant.{Stands, Backed, backed_path}

-- Every path in the frames is backed, at the point with address self and with row o for d.
abbrev pub AllBacked : Address → ℕ → Address → Option Row → List Frame → Type 0
AllBacked d base self o frames = All (λ (f : Frame). Backed d base self o (path_of f.element)) frames

-- u is the table of the point after steps 1 and 2.
module _ (d : Address) (base : ℕ) (u : List ℕ) where
  -- The frame f is backed by the row for d.
  abbrev BackedHere : Frame → Type 0
  BackedHere f = Backed d base (own u) (row_for u d) (path_of f.element)

  reply_backed : (a : Arrival) (p : PathInfo) (to : Address) (n : SequenceNumber) (hops : HopCount) (metric : Metric)
      → (to ≡ d → (own u ≡ d) ⊎ Stands base (row_for u d) n metric.0) → BackedHere (reply a p to n hops metric)
  unfolding reply
  reply_backed a p to n hops metric h = backed_path _ h

  row_stands : (to : Address) (r : Row) → row_for u to ≡ Some r → eqb r.known 1 ≡ true → r.destination ≡ d
      → Stands base (row_for u d) r.number r.metric.0
  row_stands to r found known about =
      record {
        row = r;
        found = ap (row_for u) (sym about ∙ row_destination u to r found) ∙ found;
        known = known;
        good = level refl (le_refl r.metric.0);
      }

  -- A reply is for the point itself, or it repeats a row.
  pub replies_backed : (a : Arrival) (p : PathInfo) (n : SequenceNumber) (targets : List Target)
      → AllBacked d base (own u) (row_for u d) (all_answered u a p n targets).replies
  replies_backed a p n targets =
      (replies_emitted BackedHere u a p (λ k. reply_backed a p (own u) (next_number k) (record { 0 = 0 }) (record { 0 = 0 }) inl)
      (λ to r found known. reply_backed a p r.destination r.number r.hops r.metric (λ about. inr (row_stands to r found known about)))
      n targets).each
