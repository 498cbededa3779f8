-- Defines the receiver of a forwarded element, and the frames that are then sent. Only contracts of the code use the definitions
-- of this file. The laws `reply_is` and `request_is` say that the frames of the rules go to the receivers here.
use Rattle.std.specs.Prelude.{ℕ, ◌/◌, Bool, ◌&&◌, cond, List, [], ◌∷◌, ltb, length, Option, None, Some}
use Rattle.layout.specs.declared.address.Address.{Address}
use Rattle.layout.specs.Address.{same}
use Rattle.table.specs.Table.{own, row_for, active_next}
use Rattle.element.specs.declared.PathInfo.{PathInfo}
use Rattle.element.specs.declared.RreqFields.{RreqFields}
use Rattle.element.specs.declared.Target.{Target}
use Rattle.element.specs.Element.{rreq}
use Rattle.element.specs.Entries.{target_at}
use Rattle.element.specs.Lists.{all_ones}
use Rattle.element.specs.Flags.{unicast}
use Rattle.rules.specs.Exit.{Frame}

-- ---- a RREP

unfoldable pub reply_receiver : List ℕ → ℕ → Address → Option Address
reply_receiver t c source = cond (same source (own t)) None (active_next c (row_for t source))

-- ---- a RREQ

-- Reports whether a RREQ is unicast with several destinations, which refusal 10 refuses.
unfoldable pub unicast_to_several : PathInfo → List ℕ → Bool
unicast_to_several p part = unicast p && ltb 1 (length part / 11)

unfoldable pub request_receiver : List ℕ → ℕ → PathInfo → List ℕ → Option Address
request_receiver t c p part = cond (unicast p) (active_next c (row_for t (target_at part 0).address)) (Some all_ones)

-- Returns the frame of a RREQ with kept destinations, or no frame if none is kept.
unfoldable pub sent_with : Address → RreqFields → List Target → List Frame
sent_with to f [] = []
sent_with to f (q ∷ qs) = record { receiver = to; element = rreq f (q ∷ qs) } ∷ []
