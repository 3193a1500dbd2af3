use Rattle.std.proofs.Common.{◌≡◌, Some, ap, is_some, rules}
use Rattle.slab.specs.Slab.{get}
use Rattle.pol_prefix_table.specs.declared.node.PrefixNode.{PrefixNode}
use Rattle.pol_prefix_table.specs.Trie.{child}
use Rattle.pol_prefix_table.proofs.Tight.{needed_with_number}
use Rattle.pol_prefix_table.proofs.put.put_in.Goals as goal

pub returns-in-None-clause-tight : goal.returns-in-None-clause-tight
returns-in-None-clause-tight g c = c.attach.ensures.tight 0 c.requires.tight (λ _. needed_with_number c.leaf.result c.args.number (ap (λ n. n.number) c.leaf.ensures))

pub put_over-requires-clause-there : goal.put_over-requires-clause-there
put_over-requires-clause-there g c =
    let h = c.requires.spot in
    let link : (n : PrefixNode) → get c.args.trie.now c.args.spot.0 ≡ Some n → child n c.args.spot.1 ≡ Some c.in-Some.below = search rules in
    let (_, is, _) = c.at.ensures.trie.tree.linked c.args.spot.0 h.parent c.args.spot.1 c.in-Some.below h.there (link h.parent h.there) in
    ap is_some is
