-- How a tree of port prefixes stands in a pool of nodes. No public clause cites this module.
use Rattle.std.specs.Prelude.{◌≡◌, ℕ, zero, suc, ◌+◌, ◌≤◌, ◌^◌, true, Option, Some, None}
use Rattle.std.specs.FinMap.{from_entries}
use Rattle.pol_arena.specs.Pool.{Pool, node_at, nodes_in_use}
use Rattle.pol_ports.specs.declared.PortPrefix.{PortPrefix}
use Rattle.pol_ports.specs.PortPrefix.{prefix_contains}
use Rattle.pol_mapkey.specs.declared.Kind.{Kind}
use Rattle.pol_trie.specs.declared.node.PortNode.{PortNode}
use Rattle.pol_trie.specs.PortMap.{PortMap}
use Rattle.pol_trie.specs.Tree.{Tree, Leaf, Fork, Fits, Inside, Takes, IsTight, IsLooselyTight, kind_in, node_count, listed}

-- the tree stands below this link
abbrev pub Stands : (ℕ → Option PortNode) → Option ℕ → Tree → Type 0
Stands at link Leaf = link ≡ None
Stands at link (Fork p kind low high) =
    (i : ℕ) × (n : PortNode) × (link ≡ Some i) × (at i ≡ Some n) × (n.port ≡ p) × (n.kind ≡ kind) × Stands at n.low low × Stands at n.high high

-- a tree in order stands there
pub record Holds (p : Pool PortNode) (link : Option ℕ) (t : Tree) (lo hi len : ℕ) : Type 0 where
  pub stands : Stands (node_at p) link t
  pub fits : Fits t lo hi len
  pub tight : IsTight t

-- some tree in order stands there
pub record IsWell (p : Pool PortNode) (link : Option ℕ) : Type 0 where
  pub tree : Tree
  pub lo : ℕ
  pub hi : ℕ
  pub len : ℕ
  pub holds : Holds p link tree lo hi len

-- the same, where this prefix fits, and where it has no kind there is room for two nodes
pub record HasRoom (p : Pool PortNode) (link : Option ℕ) (port : PortPrefix) : Type 0 where
  pub tree : Tree
  pub lo : ℕ
  pub hi : ℕ
  pub len : ℕ
  pub holds : Holds p link tree lo hi len
  pub takes : Takes lo hi len port
  pub room : kind_in tree port ≡ None → 2 ≤ p.spare

-- some tree in order stands there, for whose nodes another pool has room
pub record FitsInto (from : Pool PortNode) (link : Option ℕ) (to : Pool PortNode) : Type 0 where
  pub tree : Tree
  pub lo : ℕ
  pub hi : ℕ
  pub len : ℕ
  pub holds : Holds from link tree lo hi len
  pub room : node_count tree ≤ to.spare

-- the tree stands below this link in a pool whose other nodes are as they were
pub record Copies (old new : Pool PortNode) (link : Option ℕ) (t : Tree) : Type 0 where
  pub stands : Stands (node_at new) link t
  pub count : nodes_in_use new ≡ nodes_in_use old + node_count t
  pub spare : new.spare + node_count t ≡ old.spare
  pub others : (i : ℕ) (n : PortNode) → node_at old i ≡ Some n → node_at new i ≡ Some n

-- a node of this prefix stands there, which doesn't contain the other one, and there is room for two
pub record IsBelow (p : Pool PortNode) (at : ℕ) (below port : PortPrefix) : Type 0 where
  pub node : PortNode
  pub there : node_at p at ≡ Some node
  pub prefix : node.port ≡ below
  pub apart : prefix_contains below port ≡ true → ⊥
  pub room : 2 ≤ p.spare

-- a tree in order stands there, whose first prefix may be one that nothing needs
pub record LooselyHolds (p : Pool PortNode) (at : ℕ) (t : Tree) (lo hi len : ℕ) : Type 0 where
  pub stands : Stands (node_at p) (Some at) t
  pub fits : Fits t lo hi len
  pub loose : IsLooselyTight t

-- some such tree stands there
pub record IsLoose (p : Pool PortNode) (at : ℕ) : Type 0 where
  pub tree : Tree
  pub lo : ℕ
  pub hi : ℕ
  pub len : ℕ
  pub holds : LooselyHolds p at tree lo hi len

-- A tree with these kinds stands below the link, where one of so many nodes stood. Nodes whose prefixes
-- don't belong there are as they were.
pub record Becomes (old new : Pool PortNode) (link : Option ℕ) (kinds : PortPrefix → Option Kind) (before : ℕ) (lo hi len : ℕ) : Type 0 where
  pub tree : Tree
  pub holds : Holds new link tree lo hi len
  pub same : (q : PortPrefix) → kind_in tree q ≡ kinds q
  pub count : nodes_in_use new + before ≡ nodes_in_use old + node_count tree
  pub others : (i : ℕ) (n : PortNode) → node_at old i ≡ Some n → (Inside n.port lo hi len → ⊥) → node_at new i ≡ Some n

-- the tree of a node, where `below` gives those of its links
abbrev pub tree_of : (Option ℕ → Tree) → Option PortNode → Tree
tree_of below None = Leaf
tree_of below (Some n) = Fork n.port n.kind (below n.low) (below n.high)

abbrev pub tree_under : (Option ℕ → Tree) → (ℕ → Option PortNode) → Option ℕ → Tree
tree_under below at None = Leaf
tree_under below at (Some i) = tree_of below (at i)

-- the tree that stands below the link, down to that depth
unfoldable pub tree_at : ℕ → (ℕ → Option PortNode) → Option ℕ → Tree
tree_at zero at link = Leaf
tree_at (suc depth) at link = tree_under (tree_at depth at) at link

-- the kinds of the tree below this link: a prefix has 0 to 16 bits, so it has 17 levels
unfoldable pub ports_of : Pool PortNode → Option ℕ → PortMap
ports_of nodes root = from_entries (listed (tree_at 17 (node_at nodes) root))

-- a tree of all ports stands below the root, and each node is one of its
pub record IsTrie (nodes : Pool PortNode) (root : Option ℕ) : Type 0 where
  pub tree : Tree
  pub holds : Holds nodes root tree 0 (2 ^ 16) 0
  pub count : nodes_in_use nodes ≡ node_count tree
