use Rattle.std.proofs.Common.{ap, subst}
use Rattle.slab.specs.Slab.{Updates}
use Rattle.slab.specs.Entry.{value_of}
use Rattle.pol_prefix_table.proofs.Slots.{within, written, AreSlots-freed}
use Rattle.pol_prefix_table.proofs.nodes.Nodes.remove.Goals as goal

pub invariant_of-self : goal.invariant_of-self
invariant_of-self g c = AreSlots-freed g.B.Bits.seen _ _ _ c.self.invariant c.args.key c.free.result (rw (← c.self.view_is) at c.requires) c.free.ensures

pub returns : goal.returns
returns g c =
    let slots = c.self.inside.slots.items in
    let there = rw (← c.self.view_is) at c.requires in
    record {
      updates = rw (← c.self.view_is)
          (subst (Updates _ _ c.args.key) (ap value_of c.free.ensures) (written g.B.Bits.seen slots c.args.key c.free.result _ _ _ _ (within g.B.Bits.seen slots c.args.key there)));
    }
