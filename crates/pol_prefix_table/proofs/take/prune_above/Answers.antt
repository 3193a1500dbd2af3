use Rattle.std.proofs.Common.{◌≢◌, subst, rules, if◌then◌else◌}
use Rattle.slab.specs.Slab.{get}
use Rattle.pol_prefix_table.specs.Sizes.{IsTightBut}
use Rattle.pol_prefix_table.proofs.Taking.{below_root, spot_of_node}
use Rattle.pol_prefix_table.proofs.take.prune_above.Goals as goal

pub spot_of-spot-requires-clause-rooted : goal.spot_of-spot-requires-clause-rooted
spot_of-spot-requires-clause-rooted g c = c.at-prefix.ensures.trie.rooted c.args.at c.at-prefix.result c.at-prefix.ensures.node

pub spot_of-spot-requires-clause-longer : goal.spot_of-spot-requires-clause-longer
spot_of-spot-requires-clause-longer g c =
    let other : c.args.at ≢ 0 = search rules in
    below_root c.args.trie.now c.at-prefix.ensures.trie c.args.at c.at-prefix.result c.at-prefix.ensures.node other

pub prune-requires-clause-spot : goal.prune-requires-clause-spot
prune-requires-clause-spot g c = spot_of_node c.args.trie.now c.at-prefix.result c.spot_of-spot.result.0 c.args.at c.spot_of-spot.result.1 c.at-prefix.ensures.node c.spot_of-spot.ensures.spot

pub returns-clause-tight : goal.returns-clause-tight
returns-clause-tight g c =
    let other : c.args.at ≢ 0 = search rules in
    let stays = c.prune.ensures.stays c.at-prefix.result c.at-prefix.ensures.node (c.requires.left c.at-prefix.result c.at-prefix.ensures.node other) in
    subst (λ b. IsTightBut (get c.prune.new.trie) (if b then c.spot_of-spot.result.0 else 0)) stays c.prune.ensures.tight

pub returns-then-at-eq0-clause-rooted : goal.returns-then-at-eq0-clause-rooted
returns-then-at-eq0-clause-rooted g c = c.at-prefix.ensures.trie.rooted c.args.at c.at-prefix.result c.at-prefix.ensures.node
