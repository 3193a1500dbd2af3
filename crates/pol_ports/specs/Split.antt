-- The split of a port range into prefixes.
use Rattle.std.specs.Prelude.{◌≡◌, ℕ, zero, suc, ◌+◌, ◌-◌, ◌^◌, ◌<◌, Bool, not, nat_le, nat_lt, ◌&&◌, ◌||◌, ◌==◌, List, [], ◌∷◌, ◌++◌}
use Rattle.std.specs.List.{filter, list_any}
use Rattle.pol_ports.specs.declared.PortRange.{PortRange}
use Rattle.pol_ports.specs.declared.PortPrefix.{PortPrefix}
use Rattle.pol_ports.specs.PortRange.{holds}
use Rattle.pol_ports.specs.PortPrefix.{end_of, prefix_holds, prefix_at, parent_of}

-- whether every port of the prefix is in the range
abbrev pub lies_in : PortRange → PortPrefix → Bool
lies_in range p = nat_le range.first p.bits && nat_le (end_of p) (range.last + 1)

-- whether no port of the prefix is in the range
abbrev pub is_apart : PortRange → PortPrefix → Bool
is_apart range p = nat_le (end_of p) range.first || nat_lt range.last p.bits

-- Whether the prefix is a part of the range's split: it lies in the range, and it is empty or its
-- parent has a port outside the range.
abbrev pub is_part : PortRange → PortPrefix → Bool
is_part range p = lies_in range p && ((p.len == 0) || not (lies_in range (parent_of p)))

-- Every prefix that lies in the block of 2 ^ height ports from `first` on, in ascending order: the
-- block's own prefix, those of its lower half, and those of its upper half.
unfoldable pub prefixes_within : ℕ → ℕ → List PortPrefix
prefixes_within zero first = prefix_at first 16 ∷ []
prefixes_within (suc height) first =
    prefix_at first (16 - suc height) ∷ (prefixes_within height first ++ prefixes_within height (first + 2 ^ height))

-- the parts of the range's split that lie in that block, in ascending order
unfoldable pub parts_within : PortRange → ℕ → ℕ → List PortPrefix
parts_within range height first = filter (is_part range) (prefixes_within height first)

-- The split of the range, in ascending order: the widest prefixes that lie in it (profile).
unfoldable pub split_of : PortRange → List PortPrefix
split_of range = parts_within range 16 0

-- whether some prefix of the list has the port
abbrev pub any_holds : List PortPrefix → ℕ → Bool
any_holds ps port = list_any (λ p. prefix_holds p port) ps

-- the prefixes of the list have together exactly the ports of the range
abbrev pub CoversExactly : PortRange → List PortPrefix → Type 0
CoversExactly range ps = (port : ℕ) → port < 2 ^ 16 → any_holds ps port ≡ holds range port
