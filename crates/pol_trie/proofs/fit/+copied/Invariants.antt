use Rattle.pol_trie.proofs.Stand.{depth}
use Rattle.pol_trie.proofs.fit.+copied.Given as goal

abbrev pub decreases-copied : goal.decreases-copied
decreases-copied l = depth l.from.now l.at
