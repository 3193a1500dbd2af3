-- How the table keeps its prefixes: a binary trie whose nodes stand under keys. No public clause cites this module.
use Rattle.std.specs.Prelude.{◌≡◌, ◌≢◌, ℕ, ◌≤◌, ◌<◌, Bool, true, false, List, [], ◌∷◌, Option, Some, None, IsSome, MatchOption, nat_lt, if◌then◌else◌}
use Rattle.std.specs.Option.{option_map_or}
use Rattle.std.specs.Ordering.{eq_by_cmp}
use Rattle.std.specs.FinMap as map
use Rattle.slab.specs.Slab.{Slab, get}
use Rattle.pol_addr.specs.Cidr.{IsPrefix}
use Rattle.pol_addr.specs.declared.network.Prefix.{Prefix}
use Rattle.pol_addr.specs.declared.family.Family.{Family}
use Rattle.pol_addr.specs.Address.{family_of}
use Rattle.pol_addr.specs.Prefix.{world, bit_of, half, covers}
use Rattle.pol_prefix_table.specs.declared.node.PrefixNode.{PrefixNode}
use Rattle.pol_addr.specs.Order.{prefix_cmp}
use Rattle.pol_prefix_table.specs.Table.{PrefixMap}
use Rattle.pol_prefix_table.specs.Links.{key_of, link_of}
use Rattle.pol_prefix_table.specs.Sizes.{count, links, IsBalanced}

-- the key of the child on the side of this bit
abbrev pub child : PrefixNode → Bool → Option ℕ
child n high = key_of (if high then n.high else n.low)

-- Which nodes stand under which keys. A node's child on a side covers each node whose prefix lies in that half.
pub record IsTree (at : ℕ → Option PrefixNode) : Type 0 where
  pub valid : (i : ℕ) (n : PrefixNode) → at i ≡ Some n → IsPrefix n.prefix
  pub linked : (i : ℕ) (n : PrefixNode) (high : Bool) (k : ℕ) → at i ≡ Some n → child n high ≡ Some k → (c : PrefixNode) × (at k ≡ Some c) × (covers (half n.prefix high) c.prefix ≡ true)
  pub reached : (i j : ℕ) (n m : PrefixNode) (high : Bool) → at i ≡ Some n → at j ≡ Some m → covers (half n.prefix high) m.prefix ≡ true → (k : ℕ) × (c : PrefixNode) × (child n high ≡ Some k) × (at k ≡ Some c) × (covers c.prefix m.prefix ≡ true)
  pub apart : (i j : ℕ) (n m : PrefixNode) → at i ≡ Some n → at j ≡ Some m → n.prefix ≡ m.prefix → i ≡ j

-- the root is the node of the family's prefix of length 0, under the key 0
abbrev pub HasRoot : Family → (ℕ → Option PrefixNode) → Type 0
HasRoot family at = (root : PrefixNode) × (at 0 ≡ Some root) × (root.prefix ≡ world family)

-- A trie of one family. The root is there as soon as any node is, and each other node stands right below one.
pub record IsTrie (family : Family) (s : Slab PrefixNode) : Type 0 where
  pub fresh : get s 0 ≡ None → s.vacant_key ≡ 0
  pub rooted : (i : ℕ) (n : PrefixNode) → get s i ≡ Some n → HasRoot family (get s)
  pub of_family : (i : ℕ) (n : PrefixNode) → get s i ≡ Some n → family_of n.prefix.addr ≡ family
  pub tree : IsTree (get s)
  pub balanced : IsBalanced s

-- the node with this key below it on this side
abbrev pub with_child : PrefixNode → Bool → Option ℕ → PrefixNode
with_child n true key = record n { high = link_of key }
with_child n false key = record n { low = link_of key }

-- the key of the child on the side of the target, where the target is longer
abbrev pub child_toward : PrefixNode → Prefix → Option ℕ
child_toward n target = if nat_lt n.prefix.len target.len then child n (bit_of target n.prefix.len) else None

-- a node that covers the target and is shorter than the limit
pub record StandsOver (s : Slab PrefixNode) (target : Prefix) (limit i : ℕ) : Type 0 where
  pub node : PrefixNode
  pub there : get s i ≡ Some node
  pub over : covers node.prefix target ≡ true
  pub short : node.prefix.len < limit

-- the longest of these
pub record IsDeepest (s : Slab PrefixNode) (target : Prefix) (limit i : ℕ) : Type 0 where
  pub stands : StandsOver s target limit i
  pub deepest : (j : ℕ) (m : PrefixNode) → get s j ≡ Some m → covers m.prefix target ≡ true → m.prefix.len < limit → m.prefix.len ≤ stands.node.prefix.len

-- the length of a node's prefix
abbrev pub len_at : Slab PrefixNode → ℕ → ℕ
len_at s i = option_map_or (λ n. n.prefix.len) (get s i) 0

-- a node that covers the target lies at or above the first of two nodes, or at or below the second
abbrev pub NoneBetween : Slab PrefixNode → Prefix → ℕ → ℕ → Type 0
NoneBetween s target i k = (j : ℕ) (m : PrefixNode) → get s j ≡ Some m → covers m.prefix target ≡ true → len_at s i < m.prefix.len → len_at s k ≤ m.prefix.len

-- the number of the longest node with a number that covers the target, among those up to a length
pub record IsNumberUpTo (s : Slab PrefixNode) (target : Prefix) (most : ℕ) (number : ℕ) : Type 0 where
  pub key : ℕ
  pub node : PrefixNode
  pub there : get s key ≡ Some node
  pub over : covers node.prefix target ≡ true
  pub short : node.prefix.len ≤ most
  pub numbered : node.number ≡ Some number
  pub longest : (j : ℕ) (m : PrefixNode) → get s j ≡ Some m → covers m.prefix target ≡ true → m.prefix.len ≤ most → IsSome m.number → m.prefix.len ≤ node.prefix.len

-- no node with a number covers the target, among those up to a length
abbrev pub NoNumberUpTo : Slab PrefixNode → Prefix → ℕ → Type 0
NoNumberUpTo s target most = (j : ℕ) (m : PrefixNode) → get s j ≡ Some m → covers m.prefix target ≡ true → m.prefix.len ≤ most → m.number ≡ None

-- the same among all nodes
abbrev pub IsNumberOver : Slab PrefixNode → Prefix → ℕ → Type 0
IsNumberOver s target = IsNumberUpTo s target target.len

abbrev pub NoNumberOver : Slab PrefixNode → Prefix → Type 0
NoNumberOver s target = NoNumberUpTo s target target.len

-- what a walk has found at a node
abbrev pub IsBest : Slab PrefixNode → Prefix → ℕ → Option ℕ → Type 0
IsBest s target i best = MatchOption best (NoNumberUpTo s target (len_at s i)) (IsNumberUpTo s target (len_at s i))

-- a node fits below another on a side, over what stands there
pub record FitsBelow (s : Slab PrefixNode) (i : ℕ) (high : Bool) (c : PrefixNode) : Type 0 where
  pub parent : PrefixNode
  pub there : get s i ≡ Some parent
  pub valid : IsPrefix c.prefix
  pub under : covers (half parent.prefix high) c.prefix ≡ true
  pub moved : (d : Bool) (k : ℕ) → child c d ≡ Some k → (m : PrefixNode) × (get s k ≡ Some m) × (covers (half c.prefix d) m.prefix ≡ true)
  pub below : (k : ℕ) (m : PrefixNode) → child parent high ≡ Some k → get s k ≡ Some m → (d : Bool) × (child c d ≡ Some k) × (covers (half c.prefix d) m.prefix ≡ true)
  pub counted : links c ≡ count (child parent high)

-- a node stands below another on a side, and has at most this one child
pub record HasOnly (s : Slab PrefixNode) (i : ℕ) (high : Bool) (k : ℕ) (only : Option ℕ) : Type 0 where
  pub parent : PrefixNode
  pub there : get s i ≡ Some parent
  pub link : child parent high ≡ Some k
  pub node : PrefixNode
  pub is : get s k ≡ Some node
  pub moved : (d : Bool) (l : ℕ) → child node d ≡ Some l → only ≡ Some l
  pub from : (l : ℕ) → only ≡ Some l → (d : Bool) × (child node d ≡ Some l)
  pub counted : links node ≡ count only

-- the prefix of a node with its number, if it has one, before the rest
abbrev pub entry_before : Prefix → Option ℕ → List (Prefix × ℕ) → List (Prefix × ℕ)
entry_before p None rest = rest
entry_before p (Some number) rest = (p, number) ∷ rest

-- the prefixes and numbers of the nodes
abbrev pub numbered : List (Option PrefixNode) → List (Prefix × ℕ)
numbered [] = []
numbered (None ∷ rest) = numbered rest
numbered (Some n ∷ rest) = entry_before n.prefix n.number (numbered rest)

-- the number of a prefix among the nodes
abbrev pub number_of : Slab PrefixNode → Prefix → Option ℕ
number_of s p = map.find prefix_cmp p (numbered s.slots)

-- a node has this prefix
pub record IsNodeOf (s : Slab PrefixNode) (p : Prefix) (i : ℕ) : Type 0 where
  pub node : PrefixNode
  pub there : get s i ≡ Some node
  pub prefix : node.prefix ≡ p

-- where a prefix belongs: below its longest shorter node, on its side
pub record IsSpot (s : Slab PrefixNode) (p : Prefix) (i : ℕ) (high : Bool) : Type 0 where
  pub parent : PrefixNode
  pub there : get s i ≡ Some parent
  pub valid : IsPrefix p
  pub under : covers (half parent.prefix high) p ≡ true
  pub deepest : (j : ℕ) (m : PrefixNode) → get s j ≡ Some m → covers m.prefix p ≡ true → m.prefix.len < p.len → m.prefix.len ≤ parent.prefix.len

-- one prefix got this number, and each other kept its own
abbrev pub Numbers : Slab PrefixNode → Slab PrefixNode → Prefix → Option ℕ → Type 0
Numbers old new p number = (q : Prefix) → number_of new q ≡ (if eq_by_cmp prefix_cmp q p then number else number_of old q)

-- no number changed
abbrev pub SameNumbers : Slab PrefixNode → Slab PrefixNode → Type 0
SameNumbers old new = (q : Prefix) → number_of new q ≡ number_of old q

-- each node but this one is still there with its prefix
abbrev pub StillThere : Slab PrefixNode → Slab PrefixNode → ℕ → Type 0
StillThere old new k = (j : ℕ) (n : PrefixNode) → j ≢ k → get old j ≡ Some n → (m : PrefixNode) × (get new j ≡ Some m) × (m.prefix ≡ n.prefix)

-- each node is still there with its prefix
abbrev pub AllStillThere : Slab PrefixNode → Slab PrefixNode → Type 0
AllStillThere old new = (j : ℕ) (n : PrefixNode) → get old j ≡ Some n → (m : PrefixNode) × (get new j ≡ Some m) × (m.prefix ≡ n.prefix)

-- the same of each node that this prefix doesn't cover
abbrev pub StillThereOutside : Slab PrefixNode → Slab PrefixNode → Prefix → Type 0
StillThereOutside old new over =
    (j : ℕ) (n : PrefixNode) → covers over n.prefix ≡ false → get old j ≡ Some n → (m : PrefixNode) × (get new j ≡ Some m) × (m.prefix ≡ n.prefix)

-- the nodes as a map
abbrev pub map_of : Slab PrefixNode → PrefixMap
map_of s = map.from_entries (numbered s.slots)
