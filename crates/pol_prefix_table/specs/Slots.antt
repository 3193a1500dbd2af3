-- How the nodes lie in a list of slots. No public clause cites this module.
use Rattle.std.specs.Prelude.{◌≡◌, ℕ, ◌<◌, ◌^◌, List, map, length, Option, Some, None, IfSome, if◌then◌else◌}
use Rattle.slab.specs.Slab.{Slab, get}
use Rattle.slab.specs.Entry.{value_of, IsSound}
use Rattle.slab.specs.declared.Entry.{Entry}
use Rattle.slab.specs.declared.Entry.TheVariants.{Vacant, Occupied}
use Rattle.pol_addr.specs.declared.address.Addr.{Addr}
use Rattle.pol_addr.specs.Cidr.{IsPrefix}
use Rattle.pol_prefix_table.specs.declared.node.PrefixNode.{PrefixNode}
use Rattle.pol_prefix_table.specs.declared.slot.NodeSlot.{NodeSlot}
use Rattle.pol_prefix_table.specs.declared.slot.NodeSlot.TheVariants.{Free, Taken}

-- of slots with the bits of addresses of one family, seen as addresses
module _ {B : Type 0} (seen : B → Addr) where
  -- a slot as an entry of the kit's slab
  abbrev pub entry_of : NodeSlot B → Entry PrefixNode
  entry_of (Free next) = Vacant next
  entry_of (Taken len numbered low high number bits) =
      Occupied (record { prefix = record { addr = seen bits; len = len }; number = if numbered then Some number else None; low = low; high = high })

  -- the node that stands in a slot
  abbrev pub node_in : NodeSlot B → Option PrefixNode
  node_in slot = value_of (entry_of slot)

  -- the prefix of the node in a slot is one
  abbrev pub IsValid : NodeSlot B → Type 0
  IsValid slot = IfSome (node_in slot) (λ n. IsPrefix n.prefix)

  -- the slots, seen as a slab of the kit: the first free key, and for how many there is room
  abbrev pub seen_as : List (NodeSlot B) → ℕ → ℕ → Slab PrefixNode
  seen_as slots next capacity = record { slots = map value_of (map entry_of slots); vacant_key = next; capacity = capacity }

  -- so many slots have a node, the free ones make a list from `next` on, and a link to any of them has 32 bits
  pub record AreSlots (slots : List (NodeSlot B)) (len next : ℕ) : Type 0 where
    pub sound : IsSound (map entry_of slots) len next
    pub valid : (i : ℕ) (n : PrefixNode) → get (seen_as slots 0 0) i ≡ Some n → IsPrefix n.prefix
    pub small : length slots < 2 ^ 32
