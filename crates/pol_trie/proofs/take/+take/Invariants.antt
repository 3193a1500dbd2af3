use Rattle.pol_trie.proofs.Stand.{depth}
use Rattle.pol_trie.proofs.take.+take.Given as goal

abbrev pub decreases-take : goal.decreases-take
decreases-take l = depth l.nodes.now l.at
