use Rattle.std.proofs.Common.{arith}
use Rattle.std.proofs.lemmas.List.{length-map}
use Rattle.pol_prefix_table.specs.Slots.{entry_of}
use Rattle.pol_prefix_table.proofs.nodes.Nodes.len.Goals as goal

pub returns-clause-small : goal.returns-clause-small
returns-clause-small g c =
    let h = c.self.invariant in
    let sound = h.sound in
    omega (arith, sound.total, h.small, length-map c.self.inside.slots.items (entry_of g.B.Bits.seen))
