-- Laws of keeping the matches, and of the RERR that they make, as the proofs of the functions need them.
use Rattle.std.specs.Prelude.{filter_map}
use Rattle.std.specs.Bool.{then_some}
use Rattle.std.specs.List.{cons_option}
use Prim.Native.Nat.{ℕ, ◌+◌, ◌-◌, ◌*◌, ◌/◌, ◌≤◌}
use mathlib.Core.Path.{◌≡◌, refl, sym, ap, ◌∙◌}
use mathlib.Core.Bool.{Bool, true, false, cond}
use mathlib.Core.List.{List, [], ◌∷◌, flat_map}
use lib.ListN.{length}
use native.Mathlib.Omega.{arith}
use Rattle.octets.specs.LittleEndian.{overwrite}
use Rattle.element.specs.declared.Kind.TheVariants.{Rerr}
use Rattle.element.specs.declared.LostDestination.{LostDestination}
use Rattle.element.specs.declared.RerrFields.{RerrFields}
use Rattle.element.specs.Element.{rerr, rerr_numbers}
use Rattle.element.specs.Layout.{PartOf}
use Rattle.element.specs.Entries.{lost_at, lost_in, lost_octets}
use Rattle.element.specs.Lists.{all_ones}
use Rattle.element.specs.Octets.{frame_start}
use Rattle.element.proofs.Scans.{each_length}
use Rattle.element.proofs.Sizes.{frame_length}
use Rattle.writing.proofs.Written.{started_last}
use Rattle.rules.specs.declared.Arrival.{Arrival}
use Rattle.rules.specs.Errors.{matches}
use Rattle.rules.specs.Lists.{filter}
use Rattle.rules.specs.Onward.{to_all}
use Rattle.rules.specs.Exit.{frame_octets}
use Rattle.rules.proofs.Alls.{filter_fewer}
use Rattle.rules.proofs.FrameOctets.{one_frame}

-- Returns the matches among the destinations named.
abbrev matched : List ℕ → Arrival → List LostDestination → List LostDestination
matched t a named = filter (matches t a.clock a.transmitter) named

-- Keeping an entry if it passes a test keeps the entries that pass.
pub kept_are : {A : Type 0} (p : A → Bool) (xs : List A) → filter_map (λ x. then_some (p x) x) xs ≡ filter p xs
kept_are p [] = refl
kept_are p (x ∷ xs) = by (p x) (kept_are p xs)
  where
    by : (b : Bool) {rest : List _} → rest ≡ filter p xs → cons_option (then_some b x) rest ≡ cond b (x ∷ filter p xs) (filter p xs)
    by true e = ap (λ (l : List _). x ∷ l) e
    by false e = e

-- ---- the RERR from place `at` on, by the place after the matches

module _ (t : List ℕ) (a : Arrival) (part : List ℕ) (at end : ℕ) (many : end ≡ at + 10 + 10 * length (matched t a (lost_in part))) where
  module _ (n : ℕ) (ne : n ≡ (end - (at + 10)) / 10) where
    counted : n ≡ length (matched t a (lost_in part))
    counted = omega (arith, many)

    pub error_few : PartOf Rerr part → n ≤ 25
    error_few l =
        omega (arith, counted, l.short, filter_fewer (matches t a.clock a.transmitter) (lost_in part), each_length (lost_at part) 0 (length part / 10))

    pub error_written : (f : RerrFields) (output w v : List ℕ) → w ≡ overwrite output (at + 10) (flat_map lost_octets (matched t a (lost_in part)))
        → v ≡ overwrite w at (frame_start all_ones Rerr n (rerr_numbers f))
        → v ≡ overwrite output at (frame_octets (to_all (rerr f (matched t a (lost_in part)))))
    error_written f output w v we ve =
        started_last all_ones output w v at (at + 10) (rerr f (matched t a (lost_in part))) n counted refl we ve
        ∙ ap (overwrite output at) (sym (one_frame (record { receiver = all_ones; element = rerr f (matched t a (lost_in part)) })))

  pub error_short : PartOf Rerr part → end - at ≤ 260
  error_short l =
      omega (arith, many, l.short, filter_fewer (matches t a.clock a.transmitter) (lost_in part), each_length (lost_at part) 0 (length part / 10))

  pub error_long : (f : RerrFields) → end - at ≡ length (frame_octets (to_all (rerr f (matched t a (lost_in part)))))
  error_long f =
      let error = rerr f (matched t a (lost_in part)) in
      omega (arith, many, frame_length all_ones error, ap length (one_frame (record { receiver = all_ones; element = error })))
