-- Defines the four elements as values, with their lists. PROTOCOL, 'Elements'.
use Rattle.std.specs.Prelude.{ℕ, List, [], ◌∷◌, ◌++◌, length}
use Rattle.element.specs.declared.Kind.{Kind}
use Rattle.element.specs.declared.Kind.TheVariants.{Rann, Rreq, Rrep, Rerr}
use Rattle.element.specs.declared.PathInfo.{PathInfo}
use Rattle.element.specs.declared.LostDestination.{LostDestination}
use Rattle.element.specs.declared.NumberedAddress.{NumberedAddress}
use Rattle.element.specs.declared.Target.{Target}
use Rattle.element.specs.declared.RreqFields.{RreqFields}
use Rattle.element.specs.declared.RrepFields.{RrepFields}
use Rattle.element.specs.declared.RerrFields.{RerrFields}

pub data Element : Type 0 where
  rann : PathInfo → Element
  rreq : RreqFields → (destinations : List Target) → Element
  rrep : RrepFields → (dependents : List NumberedAddress) → Element
  rerr : RerrFields → (destinations : List LostDestination) → Element

abbrev pub kind_of : Element → Kind
kind_of (rann p) = Rann
kind_of (rreq f targets) = Rreq
kind_of (rrep f dependents) = Rrep
kind_of (rerr f destinations) = Rerr

-- Returns N, the number of entries in the list.
abbrev pub count_of : Element → ℕ
count_of (rann p) = 0
count_of (rreq f targets) = length targets
count_of (rrep f dependents) = length dependents
count_of (rerr f destinations) = length destinations

-- Returns the destinations of a RREQ. Other elements have none.
abbrev pub targets_of : Element → List Target
targets_of (rann p) = []
targets_of (rreq f targets) = targets
targets_of (rrep f dependents) = []
targets_of (rerr f destinations) = []

-- ---- the numbers of fields, in the order of the octets

-- Flags, hop count and TTL come first in a RANN, a RREQ and a RREP.
abbrev pub start_numbers : PathInfo → List ℕ
start_numbers p = p.flags ∷ p.hops.0 ∷ p.ttl ∷ []

abbrev pub path_numbers : PathInfo → List ℕ
path_numbers p = p.subject.0 ∷ p.number.0 ∷ p.lifetime ∷ p.metric.0 ∷ []

abbrev pub numbered_numbers : NumberedAddress → List ℕ
numbered_numbers a = a.address.0 ∷ a.number.0 ∷ []

abbrev pub lost_numbers : LostDestination → List ℕ
lost_numbers m = m.address.0 ∷ m.number.0 ∷ []

abbrev pub target_numbers : Target → List ℕ
target_numbers t = t.flags ∷ t.address.0 ∷ t.number.0 ∷ []

abbrev pub rann_numbers : PathInfo → List ℕ
rann_numbers p = start_numbers p ++ path_numbers p

abbrev pub rreq_numbers : RreqFields → List ℕ
rreq_numbers f = start_numbers f.path ++ f.request.0 ∷ path_numbers f.path

abbrev pub rrep_numbers : RrepFields → List ℕ
rrep_numbers f = start_numbers f.path ++ (path_numbers f.path ++ numbered_numbers f.source)

abbrev pub rerr_numbers : RerrFields → List ℕ
rerr_numbers f = f.flags ∷ []

-- Returns the fields between Length and N.
abbrev pub field_numbers : Element → List ℕ
field_numbers (rann p) = rann_numbers p
field_numbers (rreq f targets) = rreq_numbers f
field_numbers (rrep f dependents) = rrep_numbers f
field_numbers (rerr f destinations) = rerr_numbers f
