use Rattle.pol_trie.specs.Standing.{IsWell}
use Rattle.pol_trie.proofs.Seeking.{WalksTo}
use Rattle.pol_trie.proofs.Stand.{depth}
use Rattle.pol_trie.proofs.walk.longest.Given as goal

abbrev pub invariant-loop-at : goal.invariant-loop-at
invariant-loop-at g l = record {
  well : IsWell l.nodes l.at;
  walks : WalksTo l.nodes l.fn.root l.at l.port l.best l.fn.steps l.steps;
}

abbrev pub decreases-loop-at : goal.decreases-loop-at
decreases-loop-at g l = depth l.nodes l.at
