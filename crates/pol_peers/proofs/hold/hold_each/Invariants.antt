use Rattle.std.proofs.Common.{◌+◌, ◌≤◌, length, map, take}
use Rattle.pol_selcache.specs.Cache.{IsSound}
use Rattle.pol_peers.specs.Numbering.{GainsRefs}
use Rattle.pol_peers.specs.References.{IsMoreBy, steps_to_hold}
use Rattle.pol_peers.proofs.hold.hold_each.Given as goal

-- the first peers are held
abbrev pub invariant-loop-i : goal.invariant-loop-i
invariant-loop-i g l = record {
  sound : IsSound l.cache;
  more : IsMoreBy (map (λ p. p.now) (take l.i l.peers)) l.initial.cache.live l.cache.live;
  gains : GainsRefs l.identities l.initial.cache l.cache;
  cost : l.steps ≤ l.initial.steps + steps_to_hold (map (λ p. p.now) (take l.i l.peers)) (length l.identities);
}
