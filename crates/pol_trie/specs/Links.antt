-- The links of a node. No public clause cites this module.
use Rattle.std.specs.Prelude.{ℕ, Bool, true, false, Option, if◌then◌else◌}
use Rattle.pol_ports.specs.declared.PortPrefix.{PortPrefix}
use Rattle.pol_mapkey.specs.declared.Kind.{Kind}
use Rattle.pol_trie.specs.declared.node.PortNode.{PortNode}

-- the node below on a side
abbrev pub child : PortNode → Bool → Option ℕ
child n high = if high then n.high else n.low

-- the node with this link on a side
abbrev pub with_child : PortNode → Bool → Option ℕ → PortNode
with_child n true to = record n { high = to }
with_child n false to = record n { low = to }

-- a node with one node below it on this side and another on the other
abbrev pub node_of : PortPrefix → Option Kind → Bool → Option ℕ → Option ℕ → PortNode
node_of port kind true below other = record { port = port; kind = kind; low = other; high = below }
node_of port kind false below other = record { port = port; kind = kind; low = below; high = other }
