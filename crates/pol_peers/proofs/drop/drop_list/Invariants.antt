use Rattle.std.proofs.Common.{drop}
use Rattle.pol_peers.specs.Numbering.{LosesRefs}
use Rattle.pol_peers.proofs.Counts.{Left}
use Rattle.pol_peers.proofs.drop.drop_list.Given as goal

abbrev pub invariant-loop-peer : goal.invariant-loop-peer
invariant-loop-peer l = record {
  left : Left l.peers (drop l.peer-index l.peers) l.initial.cache.live l.cache.live;
  loses : LosesRefs l.initial.cache l.cache;
}
