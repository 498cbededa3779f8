-- Laws of the octets of frames one after another.
use mathlib.Core.Path.{◌≡◌, refl}
use mathlib.Core.List.{List, [], ◌∷◌, ◌++◌, append-nil, flat_map}
use Rattle.element.specs.Octets.{write_frame}
use Rattle.element.proofs.Scans.{listed_append}
use Rattle.rules.specs.Exit.{Frame, frame_octets}

pub no_frame : frame_octets [] ≡ []
unfolding frame_octets flat_map
no_frame = refl

pub one_frame : (f : Frame) → frame_octets (f ∷ []) ≡ write_frame f.receiver f.element
unfolding frame_octets flat_map
one_frame f = append-nil (write_frame f.receiver f.element)

pub frames_append : (l l' : List Frame) → frame_octets (l ++ l') ≡ frame_octets l ++ frame_octets l'
unfolding frame_octets
frames_append = listed_append (λ (f : Frame). write_frame f.receiver f.element)
