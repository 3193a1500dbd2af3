use Rattle.std.proofs.Common.{ap, subst, sym, ◌∙◌, is_some, if◌then◌else◌}
use Rattle.std.proofs.lemmas.Option.{same_Some}
use Rattle.slab.specs.Slab.{get}
use Rattle.pol_addr.specs.Prefix.{covers}
use Rattle.pol_addr.proofs.Containment.{covers_refl}
use Rattle.pol_prefix_table.specs.Sizes.{IsTightBut}
use Rattle.pol_prefix_table.proofs.Taking.{spot_apart, spot_over, spot_of_node, root_key, pruned_kept, kept_twice}
use Rattle.pol_prefix_table.proofs.take.prune_from.Goals as goal

pub returns-then-len-eq0-clause-over : goal.returns-then-len-eq0-clause-over
returns-then-len-eq0-clause-over g c = λ n is.
    let node = c.at-prefix.result in
    ap (λ x. covers node.prefix x.prefix) (same_Some n node (sym is ∙ c.at-prefix.ensures.node)) ∙ covers_refl node.prefix c.len.ensures.valid

pub returns-then-len-eq0-clause-tight : goal.returns-then-len-eq0-clause-tight
returns-then-len-eq0-clause-tight g c =
    let root = root_key c.args.trie.now c.at-prefix.ensures.trie c.args.at c.at-prefix.result c.at-prefix.ensures.node (sym c.len.ensures.value ∙ c.if-len-eq0.true) in
    subst (IsTightBut (get c.args.trie.now)) root c.requires.tight

pub prune-requires-clause-spot : goal.prune-requires-clause-spot
prune-requires-clause-spot g c = spot_of_node c.args.trie.now c.at-prefix.result c.spot_of-spot.result.0 c.args.at c.spot_of-spot.result.1 c.at-prefix.ensures.node c.spot_of-spot.ensures.spot

pub returns-then-not-prune-clause-over : goal.returns-then-not-prune-clause-over
returns-then-not-prune-clause-over g c = λ n is.
    let node = c.at-prefix.result in
    let above = c.at-over.result in
    ap (λ x. covers above.prefix x.prefix) (same_Some n node (sym is ∙ c.at-prefix.ensures.node))
    ∙ spot_over c.args.trie.now c.at-prefix.ensures.trie.tree node.prefix c.spot_of-spot.result.0 c.spot_of-spot.result.1 c.spot_of-spot.ensures.spot above c.at-over.ensures.node

pub returns-then-not-prune-clause-kept : goal.returns-then-not-prune-clause-kept
returns-then-not-prune-clause-kept g c =
    let node = c.at-prefix.result in
    let above = c.at-over.result in
    let covered = spot_over c.args.trie.now c.at-prefix.ensures.trie.tree node.prefix c.spot_of-spot.result.0 c.spot_of-spot.result.1 c.spot_of-spot.ensures.spot above c.at-over.ensures.node in
    pruned_kept c.args.trie.now c.prune.new.trie c.args.at node above.prefix c.at-prefix.ensures.node covered c.prune.ensures.others

pub returns-then-not-prune-clause-tight : goal.returns-then-not-prune-clause-tight
returns-then-not-prune-clause-tight g c =
    subst (λ b. IsTightBut (get c.prune.new.trie) (if b then c.spot_of-spot.result.0 else 0)) c.if-not-prune.true c.prune.ensures.tight

pub prune_above-requires-clause-tight : goal.prune_above-requires-clause-tight
prune_above-requires-clause-tight g c =
    subst (λ b. IsTightBut (get c.prune.new.trie) (if b then c.spot_of-spot.result.0 else 0)) c.if-not-prune.false c.prune.ensures.tight

pub prune_above-requires-clause-there : goal.prune_above-requires-clause-there
prune_above-requires-clause-there g c =
    let h = c.spot_of-spot.ensures.spot in
    let apart = spot_apart c.args.trie.now c.at-prefix.ensures.trie.tree c.at-prefix.result c.spot_of-spot.result.0 c.args.at c.spot_of-spot.result.1 h c.at-prefix.ensures.node in
    let (_, is, _) = c.prune.ensures.others c.spot_of-spot.result.0 h.parent apart h.there in
    ap is_some is

pub prune_above-requires-clause-left : goal.prune_above-requires-clause-left
prune_above-requires-clause-left g c = c.prune.ensures.left c.if-not-prune.false

pub returns-clause-over : goal.returns-clause-over
returns-clause-over g c = λ n is.
    let node = c.at-prefix.result in
    let above = c.at-over.result in
    ap (λ x. covers above.prefix x.prefix) (same_Some n node (sym is ∙ c.at-prefix.ensures.node))
    ∙ spot_over c.args.trie.now c.at-prefix.ensures.trie.tree node.prefix c.spot_of-spot.result.0 c.spot_of-spot.result.1 c.spot_of-spot.ensures.spot above c.at-over.ensures.node

pub returns-clause-kept : goal.returns-clause-kept
returns-clause-kept g c =
    let old = c.args.trie.now in
    let mid = c.prune.new.trie in
    let node = c.at-prefix.result in
    let above = c.at-over.result in
    let tree = c.at-prefix.ensures.trie.tree in
    let h = c.spot_of-spot.ensures.spot in
    let covered = spot_over old tree node.prefix c.spot_of-spot.result.0 c.spot_of-spot.result.1 h above c.at-over.ensures.node in
    let apart = spot_apart old tree node c.spot_of-spot.result.0 c.args.at c.spot_of-spot.result.1 h c.at-prefix.ensures.node in
    let (m, is, same) = c.prune.ensures.others c.spot_of-spot.result.0 above apart c.at-over.ensures.node in
    let itself = ap (covers above.prefix) same ∙ covers_refl above.prefix (tree.valid c.spot_of-spot.result.0 above c.at-over.ensures.node) in
    kept_twice old mid c.prune_above.new.trie above.prefix
    (pruned_kept old mid c.args.at node above.prefix c.at-prefix.ensures.node covered c.prune.ensures.others)
    (pruned_kept mid c.prune_above.new.trie c.spot_of-spot.result.0 m above.prefix is itself c.prune_above.ensures.others)
