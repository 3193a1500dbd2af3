use Rattle.std.proofs.Common.{◌≢◌, Some, sym, ap, ◌∙◌, subst, rules}
use Rattle.std.proofs.lemmas.Option.{same_Some}
use Rattle.std.proofs.lemmas.Bool.{both_ways}
use Rattle.pol_addr.specs.Prefix.{covers}
use Rattle.pol_prefix_table.specs.Trie.{FitsBelow}
use Rattle.pol_addr.proofs.World.{strictly}
use Rattle.pol_prefix_table.proofs.Places.{fits_between, over_number}
use Rattle.pol_prefix_table.proofs.Tight.{needed_with_number}
use Rattle.pol_prefix_table.proofs.put.put_over.Goals as goal

pub over-node-requires-clause-longer : goal.over-node-requires-clause-longer
over-node-requires-clause-longer g c =
    let tree = c.at-other.ensures.trie.tree in
    let differs : c.at-other.result.prefix ≢ c.args.prefix = search rules in
    strictly c.args.prefix c.at-other.result.prefix (tree.valid c.args.below c.at-other.result c.at-other.ensures.node) (sym c.covers.ensures.value ∙ c.if-covers.true) differs

pub attach-requires-clause-fits : goal.attach-requires-clause-fits
attach-requires-clause-fits g c =
    let h = c.requires.spot in
    let differs : c.at-other.result.prefix ≢ c.args.prefix = search rules in
    subst (FitsBelow c.args.trie.now c.args.spot.0 c.args.spot.1) (sym c.over-node.ensures)
    (fits_between c.args.trie.now c.at-other.ensures.trie.tree c.args.prefix c.args.spot.0 c.args.spot.1 h c.args.below c.at-other.result (c.requires.link h.parent h.there) c.at-other.ensures.node (Some c.args.number) (sym c.covers.ensures.value ∙ c.if-covers.true) differs)

pub put_beside-requires-clause-differs : goal.put_beside-requires-clause-differs
put_beside-requires-clause-differs g c = λ n is.
    let differs : c.at-other.result.prefix ≢ c.args.prefix = search rules in
    λ same. differs (ap (λ x. x.prefix) (same_Some c.at-other.result n (sym c.at-other.ensures.node ∙ is)) ∙ same)

pub put_beside-requires-clause-parts : goal.put_beside-requires-clause-parts
put_beside-requires-clause-parts g c = λ n is over.
    both_ways _ c.if-covers.false (c.covers.ensures.value ∙ ap (λ x. covers c.args.prefix x.prefix) (same_Some c.at-other.result n (sym c.at-other.ensures.node ∙ is)) ∙ over)

pub returns-then-covers-clause-tight : goal.returns-then-covers-clause-tight
returns-then-covers-clause-tight g c =
    let number = ap (λ n. n.number) c.over-node.ensures ∙ over_number c.args.prefix (Some c.args.number) _ (Some c.args.below) in
    c.attach.ensures.tight 0 c.requires.tight (λ _. needed_with_number c.over-node.result c.args.number number)
