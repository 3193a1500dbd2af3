use Rattle.pol_prefix_table.proofs.Places.{spot_at}
use Rattle.pol_prefix_table.proofs.walk.spot_of.Goals as goal

pub returns-clause-spot : goal.returns-clause-spot
returns-clause-spot g c = spot_at c.args.trie.now c.args.prefix.now c.parent_of-parent.result c.at.result c.bit.result c.len-2.result c.len.ensures.valid c.parent_of-parent.ensures c.at.ensures.node c.len-2.ensures.value c.bit.ensures
