-- Defines the bits of flags. PROTOCOL, 'Elements'. All bits that have no name here are reserved. A point ignores reserved bits
-- and passes them on as received.
use Rattle.std.specs.Prelude.{ℕ, ◌+◌, ◌*◌, ◌/◌, ◌%◌, ◌^◌, Bool, eqb}
use Rattle.element.specs.declared.PathInfo.{PathInfo}
use Rattle.element.specs.declared.Target.{Target}

unfoldable pub bit : ℕ → ℕ → Bool
bit k flags = eqb (flags / 2 ^ k % 2) 1

-- Flags of a RREQ: bit 0 portal (which no rule reads), bit 1 unicast, bit 2 reply wanted.
abbrev pub unicast : PathInfo → Bool
unicast p = bit 1 p.flags

abbrev pub reply_wanted : PathInfo → Bool
reply_wanted p = bit 2 p.flags

-- Flags of a RREQ's destination: bit 0 DO, bit 1 RF, bit 2 number unknown.
abbrev pub has_do : Target → Bool
has_do q = bit 0 q.flags

abbrev pub has_rf : Target → Bool
has_rf q = bit 1 q.flags

-- Reports whether the requested number is marked unknown. A number that is marked unknown plays no part.
abbrev pub number_unknown : Target → Bool
number_unknown q = bit 2 q.flags

-- Sets DO to 1 and leaves the other bits as they were.
unfoldable pub with_do : Target → Target
with_do q = record { flags = 2 * (q.flags / 2) + 1; address = q.address; number = q.number }

-- Returns the flags of a destination with 'number unknown' set to 1 and the other bits as they were.
unfoldable pub with_unknown : ℕ → ℕ
with_unknown flags = 8 * (flags / 8) + 4 + flags % 4
