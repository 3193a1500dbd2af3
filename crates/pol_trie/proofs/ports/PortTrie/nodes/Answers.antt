use Rattle.std.proofs.Common.{◌≡◌, length, sym, ap, ◌∙◌, arith}
use Rattle.std.specs.FinMap as map
use Rattle.pol_trie.specs.Tree.{listed}
use Rattle.pol_trie.proofs.Counting.{len-ports, listed-below, nodes-below}
use Rattle.pol_trie.proofs.ports.PortTrie.nodes.Goals as goal

pub returns-clause-least : goal.returns-clause-least
returns-clause-least c =
    let w = c.self.invariant in
    let len : map.len c.args.self.now ≡ length (listed w.tree) = sym (ap map.len c.self.view_is) ∙ len-ports c.self.inside.nodes c.self.inside.root w in
    omega (arith, len, listed-below w.tree, w.count, c.nodes_in_use.ensures.count)

pub returns-clause-most : goal.returns-clause-most
returns-clause-most c =
    let w = c.self.invariant in
    let len : map.len c.args.self.now ≡ length (listed w.tree) = sym (ap map.len c.self.view_is) ∙ len-ports c.self.inside.nodes c.self.inside.root w in
    omega (arith, len, nodes-below w.tree w.holds.tight, w.count, c.nodes_in_use.ensures.count)
