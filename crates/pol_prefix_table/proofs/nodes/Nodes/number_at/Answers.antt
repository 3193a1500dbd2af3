use Rattle.std.proofs.Common.{IsSome, option_map, ap, subst, ◌∙◌}
use Rattle.pol_prefix_table.proofs.Slots.{within, node_read}
use Rattle.pol_prefix_table.specs.declared.node.PrefixNode.{PrefixNode}
use Rattle.pol_prefix_table.proofs.nodes.Nodes.number_at.Goals as goal

pub number-requires : goal.number-requires
number-requires g c =
    let there = rw (← c.self.view_is) at c.requires in
    let slots = c.self.inside.slots.items in
    subst IsSome (node_read g.B.Bits.seen slots c.args.key c.index.result.now (within g.B.Bits.seen slots c.args.key there) c.index.ensures) there

pub returns : goal.returns
returns g c =
    let there = rw (← c.self.view_is) at c.requires in
    let slots = c.self.inside.slots.items in
    rw (← c.self.view_is) (ap (option_map (λ (n : PrefixNode). n.number)) (node_read g.B.Bits.seen slots c.args.key c.index.result.now (within g.B.Bits.seen slots c.args.key there) c.index.ensures) ∙ c.number.ensures)
