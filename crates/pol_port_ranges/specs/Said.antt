-- What is said of one port of a connection, and whether it is told ('profile').
use Rattle.std.specs.Prelude.{Bool, true, false, not, ◌&&◌, Option, None, Some, if◌then◌else◌}
use Rattle.pol_mapkey.specs.declared.Word.{Word}
use Rattle.pol_mapkey.specs.declared.Word.TheVariants.{Allowed, DeniedByRule, DeniedByDefault}
use Rattle.pol_port_ranges.specs.declared.said.Halves.{Halves}
use Rattle.pol_port_ranges.specs.declared.said.PortSaid.{PortSaid}

abbrev pub is_allowed : Word → Bool
is_allowed Allowed = true
is_allowed DeniedByRule = false
is_allowed DeniedByDefault = false

-- a connection is open where both ends allow it
abbrev pub is_open : Halves → Bool
is_open halves = is_allowed halves.sent && is_allowed halves.received

-- one of the two and not the other
abbrev pub differ : Bool → Bool → Bool
differ a b = if a then not b else b

-- ---- the same words
abbrev pub same_word : Word → Word → Bool
same_word Allowed Allowed = true
same_word DeniedByRule DeniedByRule = true
same_word DeniedByDefault DeniedByDefault = true
same_word _ _ = false

abbrev pub same_halves : Halves → Halves → Bool
same_halves a b = same_word a.sent b.sent && same_word a.received b.received

-- ---- what is told
-- A change is told where a half has another word, where halves are told; and else where the connection is open before or after,
-- and not both.
abbrev pub changes : Bool → Halves → Halves → Bool
changes halves before after = if halves then not (same_halves before after) else differ (is_open before) (is_open after)

-- In a state alone, what is said is told where the connection is open.
abbrev pub is_told_after : Bool → Halves → Option Halves → Bool
is_told_after halves after None = is_open after
is_told_after halves after (Some before) = changes halves before after

abbrev pub is_told : PortSaid → Bool
is_told said = is_told_after said.halves said.after said.before

-- what is told of a port of which this is said
abbrev pub told : PortSaid → Option PortSaid
told said = if is_told said then Some said else None

-- ---- the same said
abbrev pub same_before : Option Halves → Option Halves → Bool
same_before None None = true
same_before (Some a) (Some b) = same_halves a b
same_before _ _ = false

abbrev pub same_said : PortSaid → PortSaid → Bool
same_said a b = not (differ a.halves b.halves) && (same_halves a.after b.after && same_before a.before b.before)
