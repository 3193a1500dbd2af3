use Rattle.std.proofs.Common.{◌≡◌, None, ap, subst, ◌∙◌}
use Rattle.pol_prefix_table.specs.Sizes.{IsTightBut}
use Rattle.std.proofs.lemmas.Bool.{both_ways}
use Rattle.slab.specs.Slab.{get}
use Rattle.pol_addr.specs.Address.{family_of}
use Rattle.pol_addr.specs.Prefix.{world}
use Rattle.pol_addr.proofs.ByFamily.{family_of-addr_in}
use Rattle.pol_prefix_table.proofs.Places.{none_from_test, root_trie, root_tight, root_numbers, no_nodes}
use Rattle.pol_prefix_table.proofs.family_trie.FamilyTrie.make_root.Goals as goal

pub invariant_of-self : goal.invariant_of-self
invariant_of-self g c =
    let missing : get c.self.inside.nodes 0 ≡ None = none_from_test (get c.self.inside.nodes 0) (λ some. both_ways _ c.if-not-contains.true (c.contains.ensures.1 some)) in
    let leaf = c.leaf.ensures in
    root_trie g.B.Bits.family c.self.inside.nodes c.insert_reserved.new.self c.insert_reserved.result c.leaf.result (no_nodes c.self.inside.nodes c.self.invariant missing) c.insert_reserved.ensures.updates
    (ap (λ n. n.prefix) leaf ∙ c.world.ensures ∙ ap world c.family.ensures) (ap (λ n. n.number) leaf) (ap (λ n. n.low) leaf) (ap (λ n. n.high) leaf)
    (c.insert_reserved.ensures.key ∙ c.self.invariant.fresh missing)

pub returns-then-not-contains-clause-numbers : goal.returns-then-not-contains-clause-numbers
returns-then-not-contains-clause-numbers g c =
    let missing : get c.self.inside.nodes 0 ≡ None = none_from_test (get c.self.inside.nodes 0) (λ some. both_ways _ c.if-not-contains.true (c.contains.ensures.1 some)) in
    let leaf = c.leaf.ensures in
    rw (← c.self.view_is) (root_numbers g.B.Bits.family c.self.inside.nodes c.insert_reserved.new.self c.insert_reserved.result c.leaf.result (no_nodes c.self.inside.nodes c.self.invariant missing) c.insert_reserved.ensures.updates
    (ap (λ n. n.prefix) leaf ∙ c.world.ensures ∙ ap world c.family.ensures) (ap (λ n. n.number) leaf) (ap (λ n. n.low) leaf) (ap (λ n. n.high) leaf) c.self.invariant)

pub returns-then-not-contains-clause-kept : goal.returns-then-not-contains-clause-kept
returns-then-not-contains-clause-kept g c =
    let missing : get c.self.inside.nodes 0 ≡ None = none_from_test (get c.self.inside.nodes 0) (λ some. both_ways _ c.if-not-contains.true (c.contains.ensures.1 some)) in
    rw (← c.self.view_is) (λ j n is. absurd (no_nodes c.self.inside.nodes c.self.invariant missing j n is))

pub returns-then-not-contains-clause-tight : goal.returns-then-not-contains-clause-tight
returns-then-not-contains-clause-tight g c =
    let missing : get c.self.inside.nodes 0 ≡ None = none_from_test (get c.self.inside.nodes 0) (λ some. both_ways _ c.if-not-contains.true (c.contains.ensures.1 some)) in
    let leaf = c.leaf.ensures in
    subst (IsTightBut (get c.insert_reserved.new.self)) (c.insert_reserved.ensures.key ∙ c.self.invariant.fresh missing)
    (root_tight g.B.Bits.family c.self.inside.nodes c.insert_reserved.new.self c.insert_reserved.result c.leaf.result (no_nodes c.self.inside.nodes c.self.invariant missing) c.insert_reserved.ensures.updates
    (ap (λ n. n.prefix) leaf ∙ c.world.ensures ∙ ap world c.family.ensures) (ap (λ n. n.number) leaf) (ap (λ n. n.low) leaf) (ap (λ n. n.high) leaf))

pub insert_reserved-requires-clause-family : goal.insert_reserved-requires-clause-family
insert_reserved-requires-clause-family g c =
    ap (λ n. family_of n.prefix.addr) c.leaf.ensures ∙ ap (λ p. family_of p.addr) (c.world.ensures ∙ ap world c.family.ensures) ∙ family_of-addr_in g.B.Bits.family 0
