use Rattle.std.proofs.Common.{arith}
use Rattle.pol_prefix_table.proofs.Slots.{within}
use Rattle.pol_prefix_table.proofs.nodes.Nodes.keys_are_small.Goals as goal

pub returns : goal.returns
returns g c =
    let there = rw (← c.self.view_is) at c.requires in
    omega (arith, within g.B.Bits.seen c.self.inside.slots.items c.args.key there, c.self.invariant.small)
