-- Defines ask, announce and root request. Each sends one new element to all ones, with the next own number, hop count 0, metric 0
-- and TTL 31. PROTOCOL, 'Originating'. What is defined here:
--   numbered_head, own_path                       the head with advanced counters, and the path of an element about the point
--   announced, requested                          the effect of an accepted announcement or request
--   item_checks, asked_for, asking, ask           ask: the checks of its items, one destination, the ruling and the decision
--   originating                                   the ruling that announce and root request share
--   announcing, announce                          announce: the ruling and the decision
--   requesting_as_root, root_request              root request: the ruling and the decision
use Rattle.rules.specs.Lists.{any}
use Rattle.refusals.specs.declared.Refusal.TheVariants.{BadCount, BadAddress, BadList, NoLifetime, NotATable, AboutItself}
use Rattle.std.specs.Prelude.{ℕ, ◌%◌, Bool, true, false, not, ◌&&◌, ◌||◌, cond, List, [], ◌∷◌, map, eqb, leb, length, Option}
use Rattle.std.specs.Prelude.{None, Some}
use Rattle.counters.specs.declared.SequenceNumber.{SequenceNumber}
use Rattle.counters.specs.declared.own.OwnCounters.{OwnCounters}
use Rattle.counters.specs.Numbering.{advanced_for}
use Rattle.layout.specs.declared.row.Head.{Head}
use Rattle.layout.specs.declared.row.Row.{Row}
use Rattle.layout.specs.Row.{head_with}
use Rattle.layout.specs.Layout.{head_at, put_head}
use Rattle.table.specs.Table.{own, is_table, row_for}
use Rattle.element.specs.declared.Item.{Item}
use Rattle.element.specs.declared.PathInfo.{PathInfo}
use Rattle.element.specs.declared.RreqFields.{RreqFields}
use Rattle.element.specs.declared.Target.{Target}
use Rattle.element.specs.declared.list.ListKind.TheVariants.{Items}
use Rattle.element.specs.Element.{rann, rreq}
use Rattle.element.specs.Entries.{items_in}
use Rattle.element.specs.Flags.{with_unknown}
use Rattle.element.specs.Lists.{addresses_in, all_ones, any_forbidden, contains, has_duplicate}
use Rattle.rules.specs.Decision.{Decision, Check, Ruling, decide, refuse◌when◌, ◌then◌, ◌above◌, accept, ◌>>◌}
use Rattle.rules.specs.Checks.{buffer_checks}
use Rattle.rules.specs.Exit.{Lent, with_table, Effect, initial_ttl}
use Rattle.rules.specs.Onward.{to_all}

-- ---- what all three calls share

-- A point that numbers a new element steps its own number. If the element is a RREQ, the request ID steps too.
unfoldable pub numbered_head : (is_rreq : Bool) → Head → Head
numbered_head is_rreq h =
    let c : OwnCounters = advanced_for is_rreq (record { number = h.number; request = h.request }) in
    head_with c.number c.request h.clock h

-- Returns the path of an element that the point with the head h originates: hop count and metric are 0, and TTL is 31.
unfoldable pub own_path : Head → ℕ → ℕ → PathInfo
own_path h flags lifetime =
    record {
      flags = flags;
      hops = record { 0 = 0 };
      ttl = initial_ttl;
      subject = h.own;
      number = h.number;
      lifetime = lifetime;
      metric = record { 0 = 0 };
    }

-- The effect of an accepted announcement.
unfoldable pub announced : Lent → ℕ → ℕ → Effect
announced l flags lifetime =
    let h : Head = numbered_head false (head_at l.table) in
    record { lent = with_table (put_head l.table h) l; frames = to_all (rann (own_path h flags lifetime)) }

abbrev pub own_request : Head → ℕ → ℕ → RreqFields
own_request h flags lifetime = record { request = h.request; path = own_path h flags lifetime }

-- The effect of an accepted request for these destinations.
unfoldable pub requested : Lent → ℕ → ℕ → List Target → Effect
requested l flags lifetime targets =
    let h : Head = numbered_head true (head_at l.table) in
    record { lent = with_table (put_head l.table h) l; frames = to_all (rreq (own_request h flags lifetime) targets) }

-- ---- ask

-- Reports whether an ask passes refusal 8: 1 to 20 items of 7 octets each, so 7 to 140 octets.
unfoldable pub items_fit : List ℕ → Bool
items_fit items = eqb (length items % 7) 0 && leb 7 (length items) && leb (length items) 140

-- 10. An item's flags are above 3.
abbrev pub has_high_flags : Item → Bool
has_high_flags i = i.flags above 3

-- Returns the destination of the RREQ for an item whose number n is known: flags and address as the item says.
abbrev pub with_known : Item → SequenceNumber → Target
with_known i n = record { flags = i.flags; address = i.address; number = n }

-- Returns the destination of the RREQ for an item whose number is not known: 'number unknown' is set next to the item's flags,
-- and the number is 0.
abbrev pub without_known : Item → Target
without_known i = record { flags = with_unknown i.flags; address = i.address; number = record { 0 = 0 } }

-- A destination's number is that of the held row if the row is there and its number is known. Otherwise the number is not known.
unfoldable pub asked_by : Item → Option Row → Target
asked_by i None = without_known i
asked_by i (Some r) = cond (eqb r.known 1) (with_known i r.number) (without_known i)

-- Returns the destination of the RREQ for an item, by the row that the table t holds for its address.
unfoldable pub asked_for : List ℕ → Item → Target
asked_for t i = asked_by i (row_for t i.address)

-- Refusals 8 to 10, for the items of an ask.
unfoldable pub item_checks : List ℕ → List Check
item_checks items =
    refuse BadCount when not (items_fit items)
    then refuse BadAddress when any_forbidden Items (addresses_in Items items)
    then refuse BadList when has_duplicate (addresses_in Items items) || any has_high_flags (items_in items)

unfoldable pub asking : Lent → ℕ → ℕ → List ℕ → Ruling Effect
asking l room lifetime items = do
  -- 1 and 2
  buffer_checks l.table room
  -- 8 to 10
  item_checks items
  refuse NoLifetime when eqb lifetime 0
  refuse NotATable when not (is_table l.table)
  refuse AboutItself when contains (addresses_in Items items) (own l.table)
  accept (requested l 0 lifetime (map (asked_for l.table) (items_in items)))

unfoldable pub ask : Lent → ℕ → ℕ → List ℕ → Decision Effect
ask l room lifetime items = decide (asking l room lifetime items)

-- ---- announce and root request

-- The ruling that announce and root request share. `barred` says that the flags are not allowed.
abbrev pub originating : {A : Type 0} → List ℕ → ℕ → (barred : Bool) → (lifetime : ℕ) → A → Ruling A
originating t room barred lifetime a = do
  -- 1 and 2
  buffer_checks t room
  refuse BadList when barred
  refuse NoLifetime when eqb lifetime 0
  refuse NotATable when not (is_table t)
  accept a

-- 10. For announce, the flags are not 0 or 1.
abbrev pub announcing : Lent → ℕ → ℕ → ℕ → Ruling Effect
announcing l room flags lifetime = originating l.table room (flags above 1) lifetime (announced l flags lifetime)

unfoldable pub announce : Lent → ℕ → ℕ → ℕ → Decision Effect
announce l room flags lifetime = decide (announcing l room flags lifetime)

-- Reports whether a root request may have the flags: 0, 1, 4 or 5.
unfoldable pub is_root_flags : ℕ → Bool
is_root_flags flags = eqb flags 0 || eqb flags 1 || eqb flags 4 || eqb flags 5

-- The one destination of a root request: all ones, with DO, RF and 'number unknown' set and number 0.
abbrev pub root_target : Target
root_target = record { flags = 7; address = all_ones; number = record { 0 = 0 } }

-- 10. For root request, the flags are not 0, 1, 4 or 5.
abbrev pub requesting_as_root : Lent → ℕ → ℕ → ℕ → Ruling Effect
requesting_as_root l room flags lifetime =
    originating l.table room (not (is_root_flags flags)) lifetime (requested l flags lifetime (root_target ∷ []))

unfoldable pub root_request : Lent → ℕ → ℕ → ℕ → Decision Effect
root_request l room flags lifetime = decide (requesting_as_root l room flags lifetime)
