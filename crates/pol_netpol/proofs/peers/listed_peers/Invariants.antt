use Rattle.std.proofs.Common.{◌≡◌, ◌++◌, drop, filter_map}
use Rattle.pol_netpol.specs.Translated.{peer_of}
use Rattle.pol_netpol.proofs.peers.listed_peers.Given as goal

abbrev pub invariant-loop-peer : goal.invariant-loop-peer
invariant-loop-peer l = l.made.items ++ filter_map (peer_of l.own) (drop l.peer-index l.peers) ≡ filter_map (peer_of l.own) l.peers
