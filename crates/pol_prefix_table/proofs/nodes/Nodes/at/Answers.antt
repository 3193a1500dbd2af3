use Rattle.std.proofs.Common.{IsSome, ap, subst, ◌∙◌}
use Rattle.slab.specs.Entry.{value_of}
use Rattle.pol_prefix_table.proofs.Slots.{within, node_read, valid_read}
use Rattle.pol_prefix_table.proofs.nodes.Nodes.at.Goals as goal

pub node-requires-clause-there : goal.node-requires-clause-there
node-requires-clause-there g c =
    let there = rw (← c.self.view_is) at c.requires in
    let slots = c.self.inside.slots.items in
    subst IsSome (node_read g.B.Bits.seen slots c.args.key c.index.result.now (within g.B.Bits.seen slots c.args.key there) c.index.ensures) there

pub node-requires-clause-valid : goal.node-requires-clause-valid
node-requires-clause-valid g c =
    let there = rw (← c.self.view_is) at c.requires in
    let slots = c.self.inside.slots.items in
    valid_read g.B.Bits.seen slots c.args.key c.index.result.now (within g.B.Bits.seen slots c.args.key there) c.index.ensures _ _ c.self.invariant

pub returns-clause-node : goal.returns-clause-node
returns-clause-node g c =
    let there = rw (← c.self.view_is) at c.requires in
    let slots = c.self.inside.slots.items in
    rw (← c.self.view_is) (node_read g.B.Bits.seen slots c.args.key c.index.result.now (within g.B.Bits.seen slots c.args.key there) c.index.ensures ∙ ap value_of c.node.ensures.entry)
