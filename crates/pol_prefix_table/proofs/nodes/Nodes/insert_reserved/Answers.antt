use Rattle.std.proofs.Common.{◌≡◌, length, sym, ap, subst, ◌∙◌, arith}
use Rattle.std.proofs.lemmas.List.{length-map}
use Rattle.slab.specs.Slab.{Updates}
use Rattle.slab.specs.Entry.{value_of}
use Rattle.slab.proofs.EntryLemmas.{full_at_end}
use Rattle.pol_prefix_table.specs.Slots.{entry_of}
use Rattle.pol_prefix_table.proofs.Slots.{node_read, written, free_within, free_key, AreSlots-pushed, AreSlots-filled}
use Rattle.pol_prefix_table.proofs.nodes.Nodes.insert_reserved.Goals as goal

pub invariant_of-self : goal.invariant_of-self
invariant_of-self g c =
    let slots = c.self.inside.slots.items in
    let room = rw (← c.self.view_is) at c.requires.room in
    let small = rw (← c.self.view_is) at c.requires.small in
    let h = c.self.invariant in
    let at_end : c.self.inside.next ≡ length slots = omega (arith, c.if-key-len.true) in
    let full = full_at_end _ _ _ h.sound (at_end ∙ sym (length-map slots (entry_of g.B.Bits.seen))) in
    AreSlots-pushed g.B.Bits.seen slots c.push_reserved.new.self.items _ _ c.of.result c.args.node h c.push_reserved.ensures.items at_end c.of.ensures.entry c.of.ensures.valid
    (omega (arith, room, small, full, h.sound.counted, length-map slots (entry_of g.B.Bits.seen)))

pub index-requires : goal.index-requires
index-requires g c = omega (arith, free_within g.B.Bits.seen _ _ _ c.self.invariant (λ e. omega (arith, e, c.if-key-len.false)))

pub next-self-inside-requires : goal.next-self-inside-requires
next-self-inside-requires g c =
    let slots = c.self.inside.slots.items in
    let inside = free_within g.B.Bits.seen slots _ _ c.self.invariant (λ e. omega (arith, e, c.if-key-len.false)) in
    record { free = sym (node_read g.B.Bits.seen slots c.self.inside.next c.index.result.now inside c.index.ensures) ∙ free_key g.B.Bits.seen slots _ _ c.self.invariant }

pub index_mut-requires : goal.index_mut-requires
index_mut-requires g c = omega (arith, free_within g.B.Bits.seen _ _ _ c.self.invariant (λ e. omega (arith, e, c.if-key-len.false)))

pub invariant_of-self-else-key-len : goal.invariant_of-self-else-key-len
invariant_of-self-else-key-len g c =
    let slots = c.self.inside.slots.items in
    let inside = free_within g.B.Bits.seen slots _ _ c.self.invariant (λ e. omega (arith, e, c.if-key-len.false)) in
    AreSlots-filled g.B.Bits.seen slots _ _ c.self.invariant c.index.result.now c.of-else-key-len.result _ c.args.node inside c.index.ensures c.next-self-inside.ensures c.of-else-key-len.ensures.entry c.of-else-key-len.ensures.valid

pub returns-else-key-len-clause-was_vacant : goal.returns-else-key-len-clause-was_vacant
returns-else-key-len-clause-was_vacant g c = rw (← c.self.view_is) (free_key g.B.Bits.seen c.self.inside.slots.items _ _ c.self.invariant)

pub returns-else-key-len-clause-updates : goal.returns-else-key-len-clause-updates
returns-else-key-len-clause-updates g c =
    let slots = c.self.inside.slots.items in
    let inside = free_within g.B.Bits.seen slots _ _ c.self.invariant (λ e. omega (arith, e, c.if-key-len.false)) in
    let new = c.of-else-key-len.result in
    rw (← c.self.view_is)
    (subst (Updates _ _ c.self.inside.next) (ap value_of c.of-else-key-len.ensures.entry) (written g.B.Bits.seen slots c.self.inside.next new _ _ _ _ inside))

pub returns-else-key-len-clause-len : goal.returns-else-key-len-clause-len
returns-else-key-len-clause-len g c =
    let before = c.self.invariant.sound.counted in
    let after = (invariant_of-self-else-key-len g c).sound.counted in
    rw (← c.self.view_is) (omega (arith, before, after))

pub returns-else-key-len-clause-key_in_range : goal.returns-else-key-len-clause-key_in_range
returns-else-key-len-clause-key_in_range g c =
    omega (arith, free_within g.B.Bits.seen c.self.inside.slots.items _ _ c.self.invariant (λ e. omega (arith, e, c.if-key-len.false)))
