use Rattle.std.proofs.Common.{ap, is_some}
use Rattle.pol_prefix_table.proofs.Edits.{still_before, spliced_trie, spliced_numbers, spliced_root, splice_others, spliced_tight, spliced_left}
use Rattle.pol_prefix_table.proofs.family_trie.FamilyTrie.splice.Goals as goal

pub remove-requires : goal.remove-requires
remove-requires g c =
    let h = rw (← c.self.view_is) at c.requires.only in
    ap is_some (still_before c.self.inside.nodes c.link.new.nodes c.link.new.nodes c.args.parent c.args.at c.args.high c.args.only c.self.invariant h (c.link.ensures.updates h.parent h.there))

pub invariant_of-self : goal.invariant_of-self
invariant_of-self g c =
    let h = rw (← c.self.view_is) at c.requires.only in
    spliced_trie c.self.inside.nodes c.link.new.nodes c.remove.new.self c.args.parent c.args.at c.args.high c.args.only c.self.invariant h (c.link.ensures.updates h.parent h.there) c.remove.ensures.updates

pub returns-clause-numbers : goal.returns-clause-numbers
returns-clause-numbers g c =
    let h = rw (← c.self.view_is) at c.requires.only in
    rw (← c.self.view_is) (spliced_numbers c.self.inside.nodes c.link.new.nodes c.remove.new.self c.args.parent c.args.at c.args.high c.args.only c.self.invariant h (c.link.ensures.updates h.parent h.there) c.remove.ensures.updates ((rw (← c.self.view_is) at c.requires.number) h.node h.is))

pub returns-clause-others : goal.returns-clause-others
returns-clause-others g c =
    let h = rw (← c.self.view_is) at c.requires.only in
    rw (← c.self.view_is) (splice_others c.self.inside.nodes c.link.new.nodes c.remove.new.self c.args.parent c.args.at c.args.high c.args.only c.self.invariant h (c.link.ensures.updates h.parent h.there) c.remove.ensures.updates)

pub returns-clause-rooted : goal.returns-clause-rooted
returns-clause-rooted g c =
    let h = rw (← c.self.view_is) at c.requires.only in
    spliced_root c.self.inside.nodes c.link.new.nodes c.remove.new.self c.args.parent c.args.at c.args.high c.args.only c.self.invariant h (c.link.ensures.updates h.parent h.there) c.remove.ensures.updates

pub returns-clause-tight : goal.returns-clause-tight
returns-clause-tight g c =
    let h = rw (← c.self.view_is) at c.requires.only in
    spliced_tight c.self.inside.nodes c.link.new.nodes c.remove.new.self c.args.parent c.args.at c.args.high c.args.only c.self.invariant h (c.link.ensures.updates h.parent h.there) c.remove.ensures.updates (rw (← c.self.view_is) at c.requires.tight)

pub returns-clause-left : goal.returns-clause-left
returns-clause-left g c =
    let h = rw (← c.self.view_is) at c.requires.only in
    spliced_left c.self.inside.nodes c.link.new.nodes c.remove.new.self c.args.parent c.args.at c.args.high c.args.only c.self.invariant h (c.link.ensures.updates h.parent h.there) c.remove.ensures.updates (rw (← c.self.view_is) at c.requires.tight)
