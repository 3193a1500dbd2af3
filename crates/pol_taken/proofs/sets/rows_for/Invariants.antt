use Rattle.std.proofs.Common.{map, take}
use Rattle.pol_taken.specs.PeerRows.{AreRowsFor}
use Rattle.pol_taken.proofs.sets.rows_for.Given as goal

-- the first peers have their rows
abbrev pub invariant-loop-peer : goal.invariant-loop-peer
invariant-loop-peer l = AreRowsFor l.cache.live (map (λ p. p.now) (take l.peer-index l.peers)) l.rows
