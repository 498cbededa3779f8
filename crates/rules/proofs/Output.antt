-- Laws of the frames of an accepted call, read from the octets of its output.
use Prim.Native.Nat.{ℕ, suc, ◌+◌, ◌^◌, ◌<◌, ◌≤◌}
use mathlib.Core.Path.{◌≡◌, refl, sym, ap, ap₂, ◌∙◌}
use mathlib.Core.List.{List, [], ◌∷◌, ◌++◌, append_assoc, map, flat_map}
use lib.ListN.{length, get_or, take, drop}
use lib.Seq.{sets-eq, take_at, drop_at}
use native.Mathlib.Omega.{arith}
use native.Mathlib.Nat.{zero-add}
use Rattle.octets.specs.LittleEndian.{number_at, number_octets, fields_at, field_octets, overwrite}
use Rattle.octets.proofs.Laws.{FitFields}
use Rattle.octets.proofs.OctetLists.{length_number_octets, fields_read}
use Rattle.element.specs.Entries.{All}
use Rattle.element.specs.Octets.{fixed_octets, write_element, write_frame}
use Rattle.element.proofs.Sizes.{frame_length}
use Rattle.element.proofs.ReadBack.{read_back}
use Rattle.rules.specs.Exit.{Frame, frame_octets, frames_in, element_in, read_frame}
use Rattle.rules.proofs.Sending.{FrameFits, FramesFit}

-- ---- one frame

-- Returns the octets of a frame.
abbrev pub written : Frame → List ℕ
written f = write_frame f.receiver f.element

-- The Length octet of a frame tells how many octets the frame has.
pub length_told : (f : Frame) (rest : List ℕ) → 8 + get_or (written f ++ rest) 7 0 ≡ length (written f)
unfolding write_frame write_element fixed_octets number_octets
length_told f rest = sym (frame_length f.receiver f.element)

pub element_in_lem : (f : Frame) → element_in (written f) ≡ write_element f.element
unfolding write_frame
element_in_lem f = drop_at (number_octets 6 f.receiver.0) (write_element f.element) 6 (length_number_octets 6 f.receiver.0)

receiver_in : (f : Frame) → f.receiver.0 < 256 ^ 6 → number_at 6 (written f) 0 ≡ f.receiver.0
unfolding write_frame fields_at field_octets FitFields number_octets
receiver_in f fits = ap (λ (xs : List ℕ). get_or xs 0 0) (fields_read (6 ∷ []) (f.receiver.0 ∷ []) [] (write_element f.element) 0 0 refl (fits, tt))

pub read_written : (f : Frame) → FrameFits f → read_frame (written f) ≡ f
read_written f fits =
    rw (receiver_in f fits.receiver, element_in_lem f, read_back f.element fits.element)

-- ---- frames one after another

pub cut : (frames : List Frame) (rest : List ℕ) → frames_in (length frames) (frame_octets frames ++ rest) ≡ map written frames
unfolding frames_in frame_octets flat_map
cut [] rest = refl
cut (f ∷ frames) rest =
    let others : List ℕ = frame_octets frames ++ rest in
    let long : length (written f) ≡ 8 + get_or (written f ++ others) 7 0 = sym (length_told f others) in
    ap (frames_in (suc (length frames))) (append_assoc (written f) (frame_octets frames) rest)
    ∙ ap₂ ◌∷◌ (take_at (written f) others _ long) (ap (frames_in (length frames)) (drop_at (written f) others _ long) ∙ cut frames rest)

pub together : (frames : List Frame) → flat_map (λ (s : List ℕ). s) (map written frames) ≡ frame_octets frames
unfolding frame_octets flat_map
together [] = refl
together (f ∷ frames) = ap (λ (s : List ℕ). written f ++ s) (together frames)

pub all_read : (frames : List Frame) → FramesFit frames → map read_frame (map written frames) ≡ frames
unfolding All
all_read [] fit = refl
all_read (f ∷ frames) fit = ap₂ ◌∷◌ (read_written f fit.0) (all_read frames fit.1)

-- ---- frames in an output that has room for them

module _ (output : List ℕ) (frames : List Frame) (room : length (frame_octets frames) ≤ length output) where
  abbrev after : List ℕ
  after = overwrite output 0 (frame_octets frames)

  pub after_is : after ≡ frame_octets frames ++ drop (length (frame_octets frames)) output
  unfolding overwrite
  after_is =
      sets-eq (frame_octets frames) output 0 (omega arith)
      ∙ ap (λ (n : ℕ). frame_octets frames ++ drop n output) (zero-add (length (frame_octets frames)))

  pub cut_output : frames_in (length frames) after ≡ map written frames
  cut_output = ap (frames_in (length frames)) after_is ∙ cut frames (drop (length (frame_octets frames)) output)

  pub first_octets : take (length (frame_octets frames)) after ≡ frame_octets frames
  first_octets = ap (take (length (frame_octets frames))) after_is ∙ take_at (frame_octets frames) _ _ refl
