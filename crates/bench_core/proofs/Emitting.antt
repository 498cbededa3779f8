-- Laws of the commands that may emit frames.
use Prim.Native.Nat.{ℕ, ◌<◌}
use mathlib.Core.Path.{◌≡◌, sym, subst}
use mathlib.Core.List.{List, ◌∷◌}
use lib.ListN.{length, set}
use native.Mathlib.Omega.{arith}
use Rattle.octets.specs.LittleEndian.{number_octets, overwrite, with_number, zeros, Octets}
use Rattle.octets.proofs.Laws.{number_bound}
use Rattle.octets.proofs.OctetLists.{octets_cons, octets_of_number}
use Rattle.layout.specs.declared.address.Address.{Address}
use Rattle.rules.specs.Walk.{table_at}
use Rattle.rules.specs.declared.Arrival.{Arrival}
use Rattle.rules.specs.Calls.{receives, decision, OperandsFit}
use Rattle.rules.specs.Decision.{Decision}
use Rattle.rules.specs.Exit.{lend, Effect, Exit, at_exit}
use Rattle.rules.specs.Originate.{ask, announce}
use Rattle.rules.specs.Break.{break_neighbour}
use Rattle.rules.specs.Receive.{receive}
use Rattle.bench_rules.specs.Bench.{KeptSoundly}
use Rattle.bench_rules.specs.Commands.{arrival_from}
use Rattle.bench_rules.proofs.Sound.{table_octets}
use Rattle.bench_slots.specs.Slots.{sender_of, element_of, kept_at}
use Rattle.bench_slots.specs.declared.Slot.{Slot}
use Rattle.bench_points.specs.declared.Bench.{Bench}
use Rattle.bench_points.proofs.Invariant.{kept_soundly}
use Rattle.bench_core.specs.declared.calling.Call.{Call as InCode}
use Rattle.bench_core.specs.declared.calling.Call.TheVariants.{Ask, Announce, Receive, Break}
use Rattle.bench_core.specs.InCode.{call_of}

-- ---- the calls, by their cases

module _ (c : InCode) (slots t output : List ℕ) (x : Exit) where
  abbrev Comes : Decision Effect → Type 0
  Comes d = x ≡ at_exit (lend t) output d

  abbrev decided : Decision Effect
  decided = decision (lend t) (length output) (call_of slots c)

  pub ask_made : (lifetime : ℕ) (item : List ℕ) → c ≡ Ask lifetime item → Comes (ask (lend t) (length output) lifetime item) → Comes decided
  unfolding decision
  ask_made lifetime item e h = rw e h

  pub announcement_made : (lifetime : ℕ) → c ≡ Announce lifetime → Comes (announce (lend t) (length output) 0 lifetime) → Comes decided
  unfolding decision
  announcement_made lifetime e h = rw e h

  pub receive_made : (a : Arrival) (slot : Slot) → c ≡ Receive a slot → (s : List ℕ) → s ≡ element_of slots slot.number → Comes (receive (lend t) (length output) a s)
      → Comes decided
  unfolding decision
  receive_made a slot e s se h = rw (e, ← se) h

  pub break_made : (clock : ℕ) (neighbour : Address) → c ≡ Break clock neighbour → Comes (break_neighbour (lend t) (length output) clock neighbour)
      → Comes decided
  unfolding decision
  break_made clock neighbour e h = rw e h

-- ---- ask

pub item_is : (flags x : ℕ) (item : List ℕ) → item ≡ with_number 6 (set (zeros 7) 0 flags) 1 x → item ≡ flags ∷ number_octets 6 x
unfolding with_number overwrite number_octets
item_is flags x item e = e

module _ (flags : ℕ) (destination : Address) (item : List ℕ) (ie : item ≡ flags ∷ number_octets 6 destination.0) where
  pub item_octets : flags < 256 → Octets item
  item_octets small = subst Octets (sym ie) (octets_cons flags (number_octets 6 destination.0) small (octets_of_number 6 destination.0))

-- ---- deliver

module _ (b : Bench) (slot : Slot) (k : ℕ) (is-k : (slot.number ≡ k) × (k < b.frames)) where
  kept : KeptSoundly b.points (kept_at b.slots slot.number)
  kept = kept_soundly b slot.number (omega (arith, is-k.0, is-k.1))

  module _ (sender : ℕ) (we : sender ≡ sender_of b.slots slot.number) where
    pub sender_point : sender < 16
    sender_point = omega (arith, we, kept.sender, b.few_points)

    pub receive_fits : (i : ℕ) (a : Arrival) → a ≡ arrival_from b.tables b.links b.clock sender i
        → OperandsFit (receives a (element_of b.slots slot.number))
    receive_fits i a ae = (rw ae (number_bound 6 (table_at b.tables 544 sender) 0 (table_octets b.tables sender b.table_octets)), kept.octets)

pub receiver_point : (b : Bench) (i p : ℕ) → (i ≡ p) × (p < b.points) → i < 16
receiver_point b i p is-p = omega (arith, is-p.0, is-p.1, b.few_points)
