use Rattle.pol_prefix_table.proofs.Reached.{reached_further}
use Rattle.pol_prefix_table.proofs.starts.walk_on.Goals as goal

pub to_end-start-requires : goal.to_end-start-requires
to_end-start-requires g c = record { reached = reached_further c.args.trie.now c.args.from.now c.args.to c.requires.reached c.requires.over }
