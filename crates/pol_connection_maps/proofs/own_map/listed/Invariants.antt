use Rattle.std.proofs.Common.{◌≡◌, take}
use Rattle.pol_connection_maps.proofs.own_map.listed.Given as goal

abbrev pub invariant-loop-place : goal.invariant-loop-place
invariant-loop-place l = l.entries.items ≡ take l.place l.table
