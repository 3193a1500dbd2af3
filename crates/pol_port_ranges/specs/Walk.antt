-- How ranges are made from what is said at the ports where that may change.
use Rattle.std.specs.Prelude.{◌≡◌, ℕ, ◌-◌, ◌<◌, ◌≤◌, List, [], ◌∷◌, ◌++◌, if◌then◌else◌}
use Rattle.pol_port_ranges.specs.declared.said.Range.{Range}
use Rattle.pol_port_ranges.specs.declared.said.PortSaid.{PortSaid}
use Rattle.pol_port_ranges.specs.Said.{is_told, same_said}
use Rattle.pol_port_ranges.specs.Ranges.{range, all_ports}

-- Between each of these ports and the next, and from the last one on, the same is said of all ports.
abbrev pub IsSteady : (ℕ → PortSaid) → ℕ → List ℕ → Type 0
IsSteady said here [] = (here < all_ports) × ((port : ℕ) → here ≤ port → port < all_ports → said port ≡ said here)
IsSteady said here (next ∷ others) = (here < next) × ((port : ℕ) → here ≤ port → port < next → said port ≡ said here) × IsSteady said next others

-- the range of these ports, where it is told
abbrev pub piece : ℕ → ℕ → PortSaid → List Range
piece first last said = if is_told said then range first last said ∷ [] else []

-- The ranges from a port on: to the next of these ports of which something else is said, and so on.
unfoldable pub walk : (ℕ → PortSaid) → ℕ → List ℕ → List Range
walk said first [] = piece first 65535 (said first)
walk said first (port ∷ ports) =
    if same_said (said first) (said port) then walk said first ports else piece first (port - 1) (said first) ++ walk said port ports
