-- What specifications say of port prefixes.
use Rattle.std.specs.Prelude.{ℕ, ◌+◌, ◌-◌, ◌*◌, ◌/◌, ◌^◌, ◌≤◌, Bool, min, nat_le, nat_lt, ◌&&◌, ◌==◌}
use Rattle.std.specs.Ordering.{nat_cmp, ordering_then}
use Rattle.std.specs.declared.cmp.Ordering.{Ordering}
use Rattle.std.proofs.Math.Nat.{min-le_right, mul-mod_left}
use Rattle.pol_ports.specs.declared.PortPrefix.{PortPrefix}

-- how many ports the prefix has
abbrev pub port_count : PortPrefix → ℕ
port_count p = 2 ^ (16 - p.len)

-- one more than the greatest port of the prefix
abbrev pub end_of : PortPrefix → ℕ
end_of p = p.bits + port_count p

-- whether the prefix has the port
abbrev pub prefix_holds : PortPrefix → ℕ → Bool
prefix_holds p port = nat_le p.bits port && nat_lt port (end_of p)

-- whether the first prefix has every port of the second
abbrev pub prefix_contains : PortPrefix → PortPrefix → Bool
prefix_contains p q = nat_le p.bits q.bits && nat_le (end_of q) (end_of p)

-- whether two prefixes are the same
abbrev pub same_prefix : PortPrefix → PortPrefix → Bool
same_prefix p q = (p.bits == q.bits) && (p.len == q.len)

-- every port of the first prefix is below every port of the second
abbrev pub Precedes : PortPrefix → PortPrefix → Type 0
Precedes p q = end_of p ≤ q.bits

-- The prefix of that length, at most 16, that has the port: the port with its later bits cleared.
abbrev pub prefix_at : ℕ → ℕ → PortPrefix
prefix_at port len =
    record {
      bits = port / 2 ^ (16 - min len 16) * 2 ^ (16 - min len 16);
      len = min len 16;
      short = min-le_right len 16;
      clear = mul-mod_left (port / 2 ^ (16 - min len 16)) (2 ^ (16 - min len 16));
    }

-- the empty prefix, which has every port
abbrev pub empty_prefix : PortPrefix
empty_prefix = prefix_at 0 0

-- The prefix that is one bit shorter. The empty prefix has no parent, and this gives it back.
abbrev pub parent_of : PortPrefix → PortPrefix
parent_of p = prefix_at p.bits (p.len - 1)

-- their order: by `bits`, and then by `len`
abbrev pub prefix_cmp : PortPrefix → PortPrefix → Ordering
prefix_cmp p q = ordering_then (nat_cmp p.bits q.bits) (nat_cmp p.len q.len)
