-- Walks towards a prefix, and where look-ups start. No public clause cites this module.
use Rattle.std.specs.Prelude.{◌≡◌, ℕ, ◌+◌, ◌-◌, ◌*◌, ◌^◌, ◌≤◌, false, List, Some, slice_get}
use Rattle.slab.specs.Slab.{Slab}
use Rattle.pol_addr.specs.declared.family.Family.{Family}
use Rattle.pol_addr.specs.Families.{width}
use Rattle.pol_addr.specs.Address.{addr_in}
use Rattle.pol_addr.specs.declared.network.Prefix.{Prefix}
use Rattle.pol_addr.specs.Prefix.{prefix_of, covers}
use Rattle.pol_prefix_table.specs.declared.node.PrefixNode.{PrefixNode}
use Rattle.pol_prefix_table.specs.declared.walk.Reached.{Reached}
use Rattle.pol_prefix_table.specs.declared.starts.TheConstants.{START_BITS}
use Rattle.pol_prefix_table.specs.Trie.{StandsOver, IsBest, len_at}

-- a walk stands at a node that covers its prefix, knows the longest number so far, and came by no more nodes than the
-- lengths from 0 to that node's
pub record HasReached (s : Slab PrefixNode) (r : Reached) : Type 0 where
  pub stands : StandsOver s r.to (r.to.len + 1) r.at
  pub best : IsBest s r.to r.at r.number
  pub few : r.visits ≤ len_at s r.at + 1

-- the prefix of a length that begins with the bits of a place
abbrev pub beginning : Family → ℕ → ℕ → Prefix
beginning family len place = prefix_of (addr_in family (place * 2 ^ (width family - len))) len

-- this is so of each start, and they are walks towards the prefixes of one short length, in their order
pub record AreInOrder (family : Family) (IsSo : Reached → Type 0) (starts : List Reached) : Type 0 where
  pub len : ℕ
  pub short : len ≤ START_BITS
  pub each : (i : ℕ) (r : Reached) → slice_get starts i ≡ Some r → IsSo r × (r.to ≡ beginning family len i)

-- each start is a walk towards its prefix
abbrev pub AreStarts : Family → Slab PrefixNode → List Reached → Type 0
AreStarts family s = AreInOrder family (HasReached s)

-- the same but for prefixes that this one covers
abbrev pub AreStartsOutside : Family → Slab PrefixNode → Prefix → List Reached → Type 0
AreStartsOutside family s over = AreInOrder family (λ r. covers over r.to ≡ false → HasReached s r)
