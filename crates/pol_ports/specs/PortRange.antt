-- What specifications say of port ranges.
use Rattle.std.specs.Prelude.{ℕ, Bool, max, nat_le, ◌&&◌}
use Rattle.std.proofs.Math.Nat.{le-max_left}
use Rattle.pol_ports.specs.declared.PortRange.{PortRange}

-- whether the port is in the range
abbrev pub holds : PortRange → ℕ → Bool
holds range port = nat_le range.first port && nat_le port range.last

-- The range from `first` to `end`. Where `end` is below `first` it is the single port `first`
-- (profile: an end port counts only where it is above the port).
abbrev pub range_from : ℕ → ℕ → PortRange
range_from first end = record { first = first; last = max first end; ordered = le-max_left first end }
