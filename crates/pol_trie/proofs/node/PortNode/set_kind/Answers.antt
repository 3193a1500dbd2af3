use Rattle.std.proofs.Common.{ap, ◌∙◌}
use Rattle.pol_trie.specs.PortNode.{Linked, kind_of}
use Rattle.pol_trie.proofs.Linking.{held_back, linked_is}
use Rattle.pol_trie.proofs.node.PortNode.set_kind.Goals as goal

pub returns : goal.returns
returns c =
    let n = c.args.self.now in
    let inside = c.self.inside in
    let view = c.self.view_is in
    linked_is n.port inside.bits inside.len _ _ c.held_of-self-inside.result inside.low inside.high c.args.kind n.low n.high
    (ap (λ (x : Linked). x.port.bits) view) (ap (λ (x : Linked). x.port.len) view) (ap kind_of c.held_of-self-inside.ensures ∙ held_back c.args.kind)
    (ap (λ (x : Linked). x.low) view) (ap (λ (x : Linked). x.high) view)
