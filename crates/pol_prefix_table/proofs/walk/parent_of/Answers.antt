use Rattle.pol_prefix_table.proofs.Steps.{root_stands}
use Rattle.pol_prefix_table.proofs.walk.parent_of.Goals as goal

pub loop-next-init : goal.loop-next-init
loop-next-init g c = root_stands c.args.trie.now c.args.target.now c.args.target.now.len c.requires.rooted c.len-limit.ensures.valid c.requires.family c.requires.longer
