use Rattle.std.proofs.Common.{sym, ap, ◌∙◌}
use Rattle.pol_trie.specs.Links.{with_child}
use Rattle.pol_trie.specs.PortNode.{Linked, link_of}
use Rattle.pol_trie.proofs.Linking.{linked_back, linked_is}
use Rattle.pol_trie.proofs.node.PortNode.set_child.Goals as goal

pub returns-then-high : goal.returns-then-high
returns-then-high c =
    let n = c.args.self.now in
    let inside = c.self.inside in
    let view = c.self.view_is in
    linked_is n.port inside.bits inside.len _ _ inside.held inside.low c.index_of-self-inside.result n.kind n.low c.args.to
    (ap (λ (x : Linked). x.port.bits) view) (ap (λ (x : Linked). x.port.len) view) (ap (λ (x : Linked). x.kind) view)
    (ap (λ (x : Linked). x.low) view) (ap link_of c.index_of-self-inside.ensures ∙ linked_back c.args.to)
    ∙ ap (λ b. with_child n b c.args.to) (sym c.if-high.true)

pub returns-else-high : goal.returns-else-high
returns-else-high c =
    let n = c.args.self.now in
    let inside = c.self.inside in
    let view = c.self.view_is in
    linked_is n.port inside.bits inside.len _ _ inside.held c.index_of-self-inside-else-high.result inside.high n.kind c.args.to n.high
    (ap (λ (x : Linked). x.port.bits) view) (ap (λ (x : Linked). x.port.len) view) (ap (λ (x : Linked). x.kind) view)
    (ap link_of c.index_of-self-inside-else-high.ensures ∙ linked_back c.args.to) (ap (λ (x : Linked). x.high) view)
    ∙ ap (λ b. with_child n b c.args.to) (sym c.if-high.false)
