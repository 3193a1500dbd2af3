use Rattle.std.proofs.Common.{◌≡◌, ◌++◌, map, take}
use Rattle.pol_connection_maps.specs.Telling.{connection_to}
use Rattle.pol_connection_maps.proofs.targets.push_from.Given as goal

abbrev pub invariant-loop-target : goal.invariant-loop-target
invariant-loop-target l = l.out.items ≡ l.initial.out.items ++ map (connection_to l.from) (take l.target-index l.targets)
