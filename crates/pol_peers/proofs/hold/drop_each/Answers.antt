use Rattle.std.proofs.Common.{[], ◌∷◌, map, refl, sym, arith}
use Rattle.pol_peers.proofs.Refs.{refs_lost_further}
use Rattle.pol_peers.proofs.Walks.{all_given, next_given, next_has}
use Rattle.pol_peers.proofs.hold.drop_each.Goals as goal

pub drop_peer-requires : goal.drop_peer-requires
drop_peer-requires c = record {
  held = next_has c.args.peers.now (map (λ p. p.now)) (λ p. p.now ∷ []) (λ x xs. refl) c.loop-peer.peer-index c.args.cache.now.live c.loop-peer.cache.live
      c.peer-item.result (omega arith) (sym c.peer-item.is) c.requires.held c.loop-peer.invariant.left;
}

pub loop-peer-preserved : goal.loop-peer-preserved
loop-peer-preserved c = record {
  left = next_given c.args.peers.now (map (λ p. p.now)) (λ p. p.now ∷ []) (λ x xs. refl) c.loop-peer.peer-index c.args.cache.now.live c.loop-peer.cache.live
      c.peer-item.result (omega arith) (sym c.peer-item.is) c.drop_peer.new.cache.live c.loop-peer.invariant.left c.drop_peer.ensures.dropped;
  loses = refs_lost_further c.args.cache.now c.loop-peer.cache c.drop_peer.new.cache c.loop-peer.invariant.loses c.drop_peer.ensures.loses;
}

pub returns-clause-dropped : goal.returns-clause-dropped
returns-clause-dropped c =
    all_given c.args.peers.now (map (λ p. p.now)) (λ p. p.now ∷ []) (λ x xs. refl) c.loop-peer.peer-index c.args.cache.now.live c.loop-peer.cache.live refl (omega arith) c.loop-peer.invariant.left
