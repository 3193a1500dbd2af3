use Rattle.pol_prefix_table.proofs.Reached.{reached_root}
use Rattle.pol_prefix_table.proofs.walk.at_root.Goals as goal

pub returns-clause-reached : goal.returns-clause-reached
returns-clause-reached g c = reached_root c.args.trie.now c.at.ensures.trie.tree c.args.to c.at.result c.requires.rooted c.len.ensures.valid c.requires.family c.at.ensures.node
