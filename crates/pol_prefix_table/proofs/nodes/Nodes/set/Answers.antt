use Rattle.std.proofs.Common.{ap, subst, arith}
use Rattle.slab.specs.Slab.{Updates}
use Rattle.slab.specs.Entry.{value_of}
use Rattle.pol_prefix_table.proofs.Slots.{within, written, AreSlots-set}
use Rattle.pol_prefix_table.proofs.nodes.Nodes.set.Goals as goal

pub invariant_of-self : goal.invariant_of-self
invariant_of-self g c =
    AreSlots-set g.B.Bits.seen _ _ _ c.self.invariant c.args.key c.of.result c.args.node (rw (← c.self.view_is) at c.requires.there) c.of.ensures.entry c.of.ensures.valid

pub returns-clause-updates : goal.returns-clause-updates
returns-clause-updates g c =
    let slots = c.self.inside.slots.items in
    let there = rw (← c.self.view_is) at c.requires.there in
    rw (← c.self.view_is)
    (subst (Updates _ _ c.args.key) (ap value_of c.of.ensures.entry) (written g.B.Bits.seen slots c.args.key c.of.result _ _ _ _ (within g.B.Bits.seen slots c.args.key there)))

pub returns-clause-len : goal.returns-clause-len
returns-clause-len g c =
    let before = c.self.invariant.sound.counted in
    let after = (invariant_of-self g c).sound.counted in
    rw (← c.self.view_is) (omega (arith, before, after))
