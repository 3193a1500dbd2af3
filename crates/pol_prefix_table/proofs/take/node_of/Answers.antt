use Rattle.std.proofs.Common.{◌≡◌, ◌≢◌, sym, ap, ◌∙◌, rules}
use Rattle.std.proofs.lemmas.Option.{same_Some}
use Rattle.slab.specs.Slab.{get}
use Rattle.pol_prefix_table.specs.Trie.{child}
use Rattle.pol_prefix_table.proofs.Taking.{root_node, in_spot}
use Rattle.pol_prefix_table.proofs.take.node_of.Goals as goal

pub returns-then-len-eq0-clause-found : goal.returns-then-len-eq0-clause-found
returns-then-len-eq0-clause-found g c =
    root_node c.args.trie.now c.contains.ensures.trie c.args.prefix.now (c.contains.ensures.there.0 c.if-not-contains.false) c.len.ensures.valid c.requires.family (sym c.len.ensures.value ∙ c.if-len-eq0.true)

pub returns-else-eq-clause-absent : goal.returns-else-eq-clause-absent
returns-else-eq-clause-absent g c = λ j n is same.
    let h = c.spot_of-parent.ensures.spot in
    let link = in_spot c.args.trie.now c.contains.ensures.trie.tree c.args.prefix.now c.spot_of-parent.result.0 c.spot_of-parent.result.1 h j n is same in
    let parent : h.parent ≡ c.at.result = same_Some h.parent c.at.result (sym h.there ∙ c.at.ensures.node) in
    let key : c.in_ok-child.child ≡ j = same_Some c.in_ok-child.child j (c.in_ok-child.ensures.key ∙ ap (λ x. child x c.spot_of-parent.result.1) (sym parent) ∙ link) in
    let node : c.at-2.result ≡ n = same_Some c.at-2.result n (sym c.at-2.ensures.node ∙ ap (get c.args.trie.now) key ∙ is) in
    let differs : c.at-2.result.prefix ≢ c.args.prefix.now = search rules in
    differs (ap (λ x. x.prefix) node ∙ same)
