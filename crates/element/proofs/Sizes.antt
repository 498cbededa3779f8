-- Laws of how many octets the parts of an element have.
use Prim.Native.Nat.{ℕ, ◌+◌}
use mathlib.Core.Path.{◌≡◌, refl, ap, ◌∙◌}
use lib.ListN.{length, length-append}
use native.Mathlib.Omega.{arith}
use Rattle.octets.specs.LittleEndian.{number_octets, field_octets, total}
use Rattle.octets.proofs.OctetLists.{length_number_octets, length_field_octets}
use Rattle.layout.specs.declared.address.Address.{Address}
use Rattle.element.specs.declared.Kind.{Kind}
use Rattle.element.specs.declared.Kind.TheVariants.{Rann, Rreq, Rrep, Rerr}
use Rattle.element.specs.Element.{Element, rann, rreq, rrep, rerr, kind_of, count_of, field_numbers}
use Rattle.element.specs.Layout.{length_with, field_widths}
use Rattle.element.specs.Octets.{count_part, fixed_octets, list_octets, write_element, frame_start, write_frame}
use Rattle.element.proofs.ListParts.{target_lists, address_lists, loss_lists}

pub as_many : (e : Element) → length (field_widths (kind_of e)) ≡ length (field_numbers e)
as_many (rann p) = refl
as_many (rreq f targets) = refl
as_many (rrep f dependents) = refl
as_many (rerr f destinations) = refl

-- The octets up to the list are as many as an element without entries has.
fixed_width : (k : Kind) (n : ℕ) → 2 + (total (field_widths k) + length (count_part k n)) ≡ 2 + length_with k 0
unfolding total
fixed_width Rann n = refl
fixed_width Rreq n = refl
fixed_width Rrep n = refl
fixed_width Rerr n = refl

pub fixed_length : (e : Element) (n : ℕ) → length (fixed_octets (kind_of e) n (field_numbers e)) ≡ 2 + length_with (kind_of e) 0
unfolding fixed_octets
fixed_length e n =
    let k : Kind = kind_of e in
    omega (
      arith,
      length-append (field_octets (field_widths k) (field_numbers e)) (count_part k n),
      length_field_octets (field_widths k) (field_numbers e) (as_many e),
      fixed_width k n,
    )

pub start_length : (to : Address) (e : Element) (n : ℕ) → length (frame_start to (kind_of e) n (field_numbers e)) ≡ 8 + length_with (kind_of e) 0
start_length to e n =
    omega (
      arith,
      length-append (number_octets 6 to.0) (fixed_octets (kind_of e) n (field_numbers e)),
      length_number_octets 6 to.0,
      fixed_length e n,
    )

list_length : (e : Element) → 2 + length_with (kind_of e) 0 + length (list_octets e) ≡ 2 + length_with (kind_of e) (count_of e)
list_length (rann p) = refl
list_length (rreq f targets) = omega (arith, target_lists.long targets)
list_length (rrep f dependents) = omega (arith, address_lists.long dependents)
list_length (rerr f destinations) = omega (arith, loss_lists.long destinations)

-- An element has two octets more than its Length says.
pub element_length : (e : Element) → length (write_element e) ≡ 2 + length_with (kind_of e) (count_of e)
unfolding write_element
element_length e =
    length-append (fixed_octets (kind_of e) (count_of e) (field_numbers e)) (list_octets e)
    ∙ ap (λ (n : ℕ). n + length (list_octets e)) (fixed_length e (count_of e)) ∙ list_length e

pub frame_length : (to : Address) (e : Element) → length (write_frame to e) ≡ 8 + length_with (kind_of e) (count_of e)
unfolding write_frame
frame_length to e =
    omega (arith, length-append (number_octets 6 to.0) (write_element e), length_number_octets 6 to.0, element_length e)
