use Rattle.std.proofs.Common.{◌≡◌, ◌++◌, map, take}
use Rattle.pol_connection_maps.specs.Telling.{reached}
use Rattle.pol_connection_maps.proofs.targets.push_to.Given as goal

abbrev pub invariant-loop-it : goal.invariant-loop-it
invariant-loop-it l = l.out.items ≡ l.initial.out.items ++ map (reached l.to) (take l.it-index l.ports)
