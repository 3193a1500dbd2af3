use Rattle.std.proofs.Common.{refl, ap, ◌∙◌}
use Rattle.pol_trie.specs.PortNode.{kind_of, link_of}
use Rattle.pol_trie.proofs.Linking.{held_back, linked_back, linked_is}
use Rattle.pol_trie.proofs.node.PortNode.new.Goals as goal

pub returns : goal.returns
returns c =
    let a = c.args in
    linked_is a.port a.port.bits a.port.len _ _ c.held_of.result c.index_of.result c.index_of-2.result a.kind a.low a.high refl refl
    (ap kind_of c.held_of.ensures ∙ held_back a.kind) (ap link_of c.index_of.ensures ∙ linked_back a.low) (ap link_of c.index_of-2.ensures ∙ linked_back a.high)
