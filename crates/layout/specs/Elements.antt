-- Defines the layouts of elements, by the octet of a head that names them. No rule uses them yet (docs/PORT.md, 'Unfinished
-- work').
use Rattle.std.specs.Prelude.{ℕ, cond, eqb}
use Rattle.layout.specs.declared.elements.Layout.{Layout}
use Rattle.layout.specs.declared.elements.Layout.TheVariants.{Draft, Standard}

-- Returns the layout that an octet names: 0 names the draft's, 1 the standard's. Any other octet is read as 0.
unfoldable pub layout_named : ℕ → Layout
layout_named octet = cond (eqb octet 1) Standard Draft

-- Returns the octet that names a layout.
abbrev pub octet_of : Layout → ℕ
octet_of Draft = 0
octet_of Standard = 1
