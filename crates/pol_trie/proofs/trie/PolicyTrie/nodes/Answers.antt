use Rattle.std.proofs.Common.{◌≡◌, sym, ap, ◌∙◌, arith}
use Rattle.std.specs.FinMap as map
use Rattle.pol_trie.specs.Roots.{row_keys}
use Rattle.pol_trie.proofs.Counting.{len-rows}
use Rattle.pol_trie.proofs.trie.PolicyTrie.nodes.Goals as goal

pub nodes-requires : goal.nodes-requires
nodes-requires c =
    let keys : map.len c.args.self.now ≡ row_keys c.self.inside.roots.entries = sym (ap map.len c.self.view_is) ∙ len-rows c.self.inside.roots.entries c.self.invariant.0 in
    record { few = omega (arith, keys, c.count.ensures, c.count.type_inv) }

pub returns-clause-least : goal.returns-clause-least
returns-clause-least c =
    let keys : map.len c.args.self.now ≡ row_keys c.self.inside.roots.entries = sym (ap map.len c.self.view_is) ∙ len-rows c.self.inside.roots.entries c.self.invariant.0 in
    omega (arith, keys, c.nodes.ensures.least)

pub returns-clause-most : goal.returns-clause-most
returns-clause-most c =
    let keys : map.len c.args.self.now ≡ row_keys c.self.inside.roots.entries = sym (ap map.len c.self.view_is) ∙ len-rows c.self.inside.roots.entries c.self.invariant.0 in
    omega (arith, keys, c.nodes.ensures.most)
