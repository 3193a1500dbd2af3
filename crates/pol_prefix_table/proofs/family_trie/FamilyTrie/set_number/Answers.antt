use Rattle.std.proofs.Common.{◌≡◌, ap, sym, ◌∙◌, subst}
use Rattle.std.proofs.lemmas.Option.{same_Some}
use Rattle.pol_prefix_table.specs.Trie.{Numbers}
use Rattle.pol_prefix_table.proofs.Edits.{numbered_trie, numbered_numbers, numbered_kept}
use Rattle.pol_prefix_table.proofs.Tight.{tight_numbered}
use Rattle.pol_prefix_table.proofs.family_trie.FamilyTrie.set_number.Goals as goal

pub invariant_of-self : goal.invariant_of-self
invariant_of-self g c = numbered_trie c.self.inside.nodes c.set.new.self c.args.at c.at-node.result c.args.number c.self.invariant c.at-node.ensures.node c.set.ensures.updates

pub returns-clause-numbers : goal.returns-clause-numbers
returns-clause-numbers g c = rw (← c.self.view_is) (λ n is.
    let node = c.at-node.result in
    let same : n.prefix ≡ node.prefix = ap (λ x. x.prefix) (same_Some n node (sym is ∙ c.at-node.ensures.node)) in
    subst (λ p. Numbers c.self.inside.nodes c.set.new.self p c.args.number) (sym same)
    (numbered_numbers c.self.inside.nodes c.set.new.self c.args.at node c.args.number c.self.invariant c.at-node.ensures.node c.set.ensures.updates))

pub returns-clause-kept : goal.returns-clause-kept
returns-clause-kept g c = rw (← c.self.view_is) (numbered_kept c.self.inside.nodes c.set.new.self c.args.at c.at-node.result c.args.number c.self.invariant c.at-node.ensures.node c.set.ensures.updates)

pub returns-clause-tight : goal.returns-clause-tight
returns-clause-tight g c = rw (← c.self.view_is) (tight_numbered c.self.inside.nodes c.set.new.self c.args.at c.at-node.result c.args.number c.set.ensures.updates)
