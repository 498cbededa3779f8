-- Laws of frames that fit and frames that do not, and of the faults of a list.
use Prim.Native.Nat.{ℕ, ◌+◌, ◌/◌}
use mathlib.Core.Path.{◌≡◌, refl}
use mathlib.Core.Bool.{Bool, true, false, cond}
use mathlib.Core.List.{List}
use lib.Dec.{leb}
use lib.ListN.{length}
use native.Mathlib.Omega.{arith}
use Rattle.std.specs.Prelude.{Result, Ok, Err}
use Rattle.octets.specs.LittleEndian.{overwrite}
use Rattle.octets.proofs.Tests.{clash}
use Rattle.layout.specs.declared.address.Address.{Address}
use Rattle.element.specs.declared.Kind.TheVariants.{Rreq, Rrep, Rerr}
use Rattle.element.specs.declared.PathInfo.{PathInfo}
use Rattle.element.specs.declared.RreqFields.{RreqFields}
use Rattle.element.specs.declared.RrepFields.{RrepFields}
use Rattle.element.specs.declared.RerrFields.{RerrFields}
use Rattle.refusals.specs.declared.Refusal.{Refusal}
use Rattle.refusals.specs.declared.Refusal.TheVariants.{ShortOutput}
use Rattle.refusals.specs.Numbers.{number_of}
use Rattle.reading.specs.declared.Fields.{Fields}
use Rattle.element.specs.Element.{Element, rann, rreq, rrep, rerr}
use Rattle.element.specs.Entries.{lost_at, lost_in, numbered_at, numbered_in, target_at, targets_in}
use Rattle.element.specs.Layout.{PartOf}
use Rattle.element.specs.Octets.{read_element, write_frame}
use Rattle.reading.specs.Reading.{reading}
use Rattle.element.proofs.Scans.{each_length}
use Rattle.element.proofs.Sizes.{frame_length}
use Rattle.probe.specs.Probes.{Probed, faults_in, written, written_again}

-- ---- room

module _ (out : List ℕ) (at size : ℕ) (r : Result (Unit {0}) Refusal) (re : r ≡ cond (leb (at + size) (length out)) (Ok (tt {0})) (Err ShortOutput)) where
  module _ (p : List ℕ) (pe : length p ≡ size) where
    pub no_room : (x : Refusal) → r ≡ Err x → record { answer = number_of x; memory = out } ≡ written out at p
    unfolding written
    no_room x e = by (leb (at + size) (length out)) refl
      where
        by : (b : Bool) → leb (at + size) (length out) ≡ b → record { answer = number_of x; memory = out } ≡ written out at p
        by true be = clash cc
        by false be = cc

    pub wrote : (u : Unit {0}) → r ≡ Ok u → (t : List ℕ) → t ≡ overwrite out at p → record { answer = 0; memory = t } ≡ written out at p
    unfolding written
    wrote u e t te = by (leb (at + size) (length out)) refl
      where
        by : (b : Bool) → leb (at + size) (length out) ≡ b → record { answer = 0; memory = t } ≡ written out at p
        by true be = cc
        by false be = clash cc

-- ---- how long frames are

module _ (to : Address) where
  pub rann_size : (p : PathInfo) → length (write_frame to (rann p)) ≡ 29
  rann_size p = frame_length to (rann p)

  module _ (part : List ℕ) where
    pub rreq_size : (f : RreqFields) → PartOf Rreq part → length (write_frame to (rreq f (targets_in part))) ≡ 34 + length part
    rreq_size f whole = omega (arith, frame_length to (rreq f (targets_in part)), each_length (target_at part) 0 (length part / 11))

    pub rrep_size : (f : RrepFields) → PartOf Rrep part → length (write_frame to (rrep f (numbered_in part))) ≡ 40 + length part
    rrep_size f whole = omega (arith, frame_length to (rrep f (numbered_in part)), each_length (numbered_at part) 0 (length part / 10))

    pub rerr_size : (f : RerrFields) → PartOf Rerr part → length (write_frame to (rerr f (lost_in part))) ≡ 10 + length part
    rerr_size f whole = omega (arith, frame_length to (rerr f (lost_in part)), each_length (lost_at part) 0 (length part / 10))

-- ---- each result of the reader

module _ (s out : List ℕ) (to : Address) (at : ℕ) (r : Result Fields Refusal) (re : r ≡ reading s) where
  pub again_refused : (x : Refusal) → r ≡ Err x → record { answer = number_of x; memory = out } ≡ written_again s to out at
  unfolding written_again
  again_refused x e = rw (← re, e) refl

  pub again_element : (f : Fields) → r ≡ Ok f → (e : Element) (w : Probed) → w ≡ written out at (write_frame to e) → read_element s ≡ e → w ≡ written_again s to out at
  unfolding written_again
  again_element f fe e w we ee = rw (we, ← re, fe, ee)

-- ---- faults

module _ (s : List ℕ) (a : Address) (r : Result Fields Refusal) (re : r ≡ reading s) where
  pub no_faults_refused : (x : Refusal) → r ≡ Err x → 0 ≡ faults_in s a
  unfolding faults_in
  no_faults_refused x e = rw (← re, e) refl
