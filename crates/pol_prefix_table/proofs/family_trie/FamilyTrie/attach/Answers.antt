use Rattle.std.proofs.Common.{◌∙◌}
use Rattle.pol_addr.proofs.Halves.{half-family}
use Rattle.pol_prefix_table.proofs.Edits.{attached_trie, attached_there, attached_numbers, attached_absent, attached_kept, attached_parent, attached_tight, parent_after}
use Rattle.pol_prefix_table.proofs.family_trie.FamilyTrie.attach.Goals as goal

pub invariant_of-self : goal.invariant_of-self
invariant_of-self g c =
    let fits = rw (← c.self.view_is) at c.requires.fits in
    let before = parent_after c.self.inside.nodes c.insert_reserved-key.new.self c.args.parent c.insert_reserved-key.result fits.parent _ fits.there c.insert_reserved-key.ensures.was_vacant c.insert_reserved-key.ensures.updates in
    attached_trie c.self.inside.nodes c.insert_reserved-key.new.self c.link.new.nodes c.args.parent c.insert_reserved-key.result c.args.high c.args.node c.self.invariant fits c.insert_reserved-key.ensures.was_vacant c.insert_reserved-key.ensures.updates (c.link.ensures.updates fits.parent before)

pub returns-clause-there : goal.returns-clause-there
returns-clause-there g c =
    let fits = rw (← c.self.view_is) at c.requires.fits in
    let before = parent_after c.self.inside.nodes c.insert_reserved-key.new.self c.args.parent c.insert_reserved-key.result fits.parent _ fits.there c.insert_reserved-key.ensures.was_vacant c.insert_reserved-key.ensures.updates in
    attached_there c.self.inside.nodes c.insert_reserved-key.new.self c.link.new.nodes c.args.parent c.insert_reserved-key.result c.args.high c.args.node c.self.invariant fits c.insert_reserved-key.ensures.was_vacant c.insert_reserved-key.ensures.updates (c.link.ensures.updates fits.parent before)

pub returns-clause-numbers : goal.returns-clause-numbers
returns-clause-numbers g c =
    let fits = rw (← c.self.view_is) at c.requires.fits in
    let before = parent_after c.self.inside.nodes c.insert_reserved-key.new.self c.args.parent c.insert_reserved-key.result fits.parent _ fits.there c.insert_reserved-key.ensures.was_vacant c.insert_reserved-key.ensures.updates in
    rw (← c.self.view_is) (attached_numbers c.self.inside.nodes c.insert_reserved-key.new.self c.link.new.nodes c.args.parent c.insert_reserved-key.result c.args.high c.args.node c.self.invariant fits c.insert_reserved-key.ensures.was_vacant c.insert_reserved-key.ensures.updates (c.link.ensures.updates fits.parent before))

pub returns-clause-was_absent : goal.returns-clause-was_absent
returns-clause-was_absent g c =
    let fits = rw (← c.self.view_is) at c.requires.fits in
    let before = parent_after c.self.inside.nodes c.insert_reserved-key.new.self c.args.parent c.insert_reserved-key.result fits.parent _ fits.there c.insert_reserved-key.ensures.was_vacant c.insert_reserved-key.ensures.updates in
    rw (← c.self.view_is) (attached_absent c.self.inside.nodes c.insert_reserved-key.new.self c.link.new.nodes c.args.parent c.insert_reserved-key.result c.args.high c.args.node c.self.invariant fits c.insert_reserved-key.ensures.was_vacant c.insert_reserved-key.ensures.updates (c.link.ensures.updates fits.parent before))

pub returns-clause-kept : goal.returns-clause-kept
returns-clause-kept g c =
    let fits = rw (← c.self.view_is) at c.requires.fits in
    let before = parent_after c.self.inside.nodes c.insert_reserved-key.new.self c.args.parent c.insert_reserved-key.result fits.parent _ fits.there c.insert_reserved-key.ensures.was_vacant c.insert_reserved-key.ensures.updates in
    rw (← c.self.view_is) (attached_kept c.self.inside.nodes c.insert_reserved-key.new.self c.link.new.nodes c.args.parent c.insert_reserved-key.result c.args.high c.args.node c.self.invariant fits c.insert_reserved-key.ensures.was_vacant c.insert_reserved-key.ensures.updates (c.link.ensures.updates fits.parent before))

pub returns-clause-parent : goal.returns-clause-parent
returns-clause-parent g c =
    let fits = rw (← c.self.view_is) at c.requires.fits in
    let before = parent_after c.self.inside.nodes c.insert_reserved-key.new.self c.args.parent c.insert_reserved-key.result fits.parent _ fits.there c.insert_reserved-key.ensures.was_vacant c.insert_reserved-key.ensures.updates in
    rw (← c.self.view_is) (attached_parent c.self.inside.nodes c.insert_reserved-key.new.self c.link.new.nodes c.args.parent c.insert_reserved-key.result c.args.high c.args.node c.self.invariant fits c.insert_reserved-key.ensures.was_vacant c.insert_reserved-key.ensures.updates (c.link.ensures.updates fits.parent before))

pub returns-clause-tight : goal.returns-clause-tight
returns-clause-tight g c =
    let fits = rw (← c.self.view_is) at c.requires.fits in
    let before = parent_after c.self.inside.nodes c.insert_reserved-key.new.self c.args.parent c.insert_reserved-key.result fits.parent _ fits.there c.insert_reserved-key.ensures.was_vacant c.insert_reserved-key.ensures.updates in
    rw (← c.self.view_is) (attached_tight c.self.inside.nodes c.insert_reserved-key.new.self c.link.new.nodes c.args.parent c.insert_reserved-key.result c.args.high c.args.node c.self.invariant fits c.insert_reserved-key.ensures.was_vacant c.insert_reserved-key.ensures.updates (c.link.ensures.updates fits.parent before))

pub insert_reserved-key-requires-clause-family : goal.insert_reserved-key-requires-clause-family
insert_reserved-key-requires-clause-family g c =
    let fits = rw (← c.self.view_is) at c.requires.fits in
    half-family fits.parent.prefix c.args.node.prefix c.args.high fits.under ∙ c.self.invariant.of_family c.args.parent fits.parent fits.there
