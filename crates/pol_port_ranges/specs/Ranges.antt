-- What is told of ports as ranges: those of the ports that are told, joined where they touch and the same is said ('profile').
use Rattle.std.specs.Prelude.{◌≡◌, ◌≢◌, ℕ, zero, suc, ◌+◌, ◌<◌, ◌≤◌, ◌==◌, ◌&&◌, nat_le, Bool, List, [], ◌∷◌, Option, None, Some, if◌then◌else◌, IsTrue}
use Rattle.std.specs.List.{AllByRecursion}
use Rattle.pol_port_ranges.specs.declared.said.Range.{Range}
use Rattle.pol_port_ranges.specs.declared.said.PortSaid.{PortSaid}
use Rattle.pol_port_ranges.specs.Said.{is_told, same_said}

abbrev pub range : ℕ → ℕ → PortSaid → Range
range first last said = record { first = first; last = last; said = said }

-- the range goes on where this one ends, and says the same
abbrev pub goes_on : ℕ → PortSaid → Range → Bool
goes_on last said next = (next.first == last + 1) && same_said said next.said

-- a range in front of others: joined with the next where that goes on
abbrev pub joined : ℕ → ℕ → PortSaid → List Range → List Range
joined first last said [] = range first last said ∷ []
joined first last said (next ∷ others) =
    if goes_on last said next then range first next.last said ∷ others else range first last said ∷ next ∷ others

-- ports of which this is said, in front of the ranges of the ports behind them
abbrev pub in_front : ℕ → ℕ → PortSaid → List Range → List Range
in_front first last said ranges = if is_told said then joined first last said ranges else ranges

-- the ranges of so many ports, from this one on, port by port
unfoldable pub ranges_from : ℕ → ℕ → (ℕ → PortSaid) → List Range
ranges_from zero port said = []
ranges_from (suc count) port said = in_front port port (said port) (ranges_from count (port + 1) said)

-- how many ports there are
abbrev pub all_ports : ℕ
all_ports = 65536

-- The ranges of what is said of each port.
abbrev pub ranges : (ℕ → PortSaid) → List Range
ranges said = ranges_from all_ports 0 said

-- ---- what ranges say
abbrev pub has_port : Range → ℕ → Bool
has_port r port = nat_le r.first port && nat_le port r.last

-- what the first range says that has the port
abbrev pub said_at : List Range → ℕ → Option PortSaid
said_at [] port = None
said_at (r ∷ others) port = if has_port r port then Some r.said else said_at others port

-- the ports of the first are below those of the second, and where the two touch they don't say the same
abbrev pub IsBelow : Range → Range → Type 0
IsBelow r s = (r.last < s.first) × (r.last + 1 ≡ s.first → r.said ≢ s.said)

-- Each range has a port and is told, and comes before those behind it; none could be joined with the next.
abbrev pub AreApart : List Range → Type 0
AreApart [] = Unit {0}
AreApart (r ∷ others) = (r.first ≤ r.last) × IsTrue (is_told r.said) × AllByRecursion (IsBelow r) others × AreApart others
