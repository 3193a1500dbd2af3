use Rattle.std.proofs.Common.{◌≡◌, map, take}
use Rattle.std.specs.List.{AllByRecursion}
use Rattle.pol_taken.specs.Known.{key_of}
use Rattle.pol_taken.specs.PeerRows.{IsLiveRow}
use Rattle.pol_taken.proofs.known_peers.rows_now.Given as goal

-- the first peers have their rows
abbrev pub invariant-loop-row : goal.invariant-loop-row
invariant-loop-row l = (map key_of l.new.items ≡ map key_of (take l.row-index l.rows)) × AllByRecursion (IsLiveRow l.cache.live) l.new.items
