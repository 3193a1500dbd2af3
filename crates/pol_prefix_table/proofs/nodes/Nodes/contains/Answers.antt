use Rattle.std.proofs.Common.{◌≡◌, ◌<◌, length, get_or, is_some, sym, ap, subst, ◌∙◌}
use Rattle.pol_prefix_table.proofs.Slots.{node_read}
use Rattle.pol_prefix_table.proofs.nodes.Nodes.contains.Goals as goal

pub returns-in-Some : goal.returns-in-Some
returns-in-Some g c =
    let key = c.args.key in
    let slot = c.in-Some.slot.now in
    let inside = subst (λ xs. key < length xs) c.deref.ensures.value c.in-Some.ensures.lookup.3.0 in
    let read = subst (λ xs. slot ≡ get_or xs key slot) c.deref.ensures.value c.in-Some.ensures.lookup.1 in
    let same = ap is_some (node_read g.B.Bits.seen c.self.inside.slots.items key slot inside read) in
    rw (← c.self.view_is) (λ taken. same ∙ sym c.is_taken.ensures ∙ taken, λ there. c.is_taken.ensures ∙ sym same ∙ there)
