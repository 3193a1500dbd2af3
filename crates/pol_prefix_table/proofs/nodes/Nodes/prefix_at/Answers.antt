use Rattle.std.proofs.Common.{IsSome, option_map, ap, subst, ◌∙◌}
use Rattle.pol_prefix_table.proofs.Slots.{within, node_read, valid_read}
use Rattle.pol_prefix_table.specs.declared.node.PrefixNode.{PrefixNode}
use Rattle.pol_prefix_table.proofs.nodes.Nodes.prefix_at.Goals as goal

pub prefix-requires-clause-there : goal.prefix-requires-clause-there
prefix-requires-clause-there g c =
    let there = rw (← c.self.view_is) at c.requires in
    let slots = c.self.inside.slots.items in
    subst IsSome (node_read g.B.Bits.seen slots c.args.key c.index.result.now (within g.B.Bits.seen slots c.args.key there) c.index.ensures) there

pub prefix-requires-clause-valid : goal.prefix-requires-clause-valid
prefix-requires-clause-valid g c =
    let there = rw (← c.self.view_is) at c.requires in
    let slots = c.self.inside.slots.items in
    valid_read g.B.Bits.seen slots c.args.key c.index.result.now (within g.B.Bits.seen slots c.args.key there) c.index.ensures _ _ c.self.invariant

pub returns : goal.returns
returns g c =
    let there = rw (← c.self.view_is) at c.requires in
    let slots = c.self.inside.slots.items in
    rw (← c.self.view_is) (ap (option_map (λ (n : PrefixNode). n.prefix)) (node_read g.B.Bits.seen slots c.args.key c.index.result.now (within g.B.Bits.seen slots c.args.key there) c.index.ensures) ∙ c.prefix.ensures)
