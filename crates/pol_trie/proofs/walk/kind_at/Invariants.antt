use Rattle.pol_trie.specs.Standing.{IsWell}
use Rattle.pol_trie.proofs.Seeking.{LeadsTo}
use Rattle.pol_trie.proofs.Stand.{depth}
use Rattle.pol_trie.proofs.walk.kind_at.Given as goal

abbrev pub invariant-loop-at : goal.invariant-loop-at
invariant-loop-at l = record {
  well : IsWell l.nodes l.at;
  leads : LeadsTo l.nodes l.fn.root l.at l.port;
}

abbrev pub decreases-loop-at : goal.decreases-loop-at
decreases-loop-at l = depth l.nodes l.at
