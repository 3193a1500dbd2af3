use Rattle.pol_trie.proofs.Stand.{depth}
use Rattle.pol_trie.proofs.put.+put.Given as goal

abbrev pub decreases-put : goal.decreases-put
decreases-put l = depth l.nodes.now l.at
