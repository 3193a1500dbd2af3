use Rattle.std.proofs.Common.{◌≡◌, map, take}
use Rattle.std.specs.List.{flat_map}
use Rattle.pol_connection_maps.specs.Telling.{connection_to, ends_in, targets}
use Rattle.pol_connection_maps.proofs.targets.list_of.Given as goal

abbrev pub invariant-loop-from : goal.invariant-loop-from
invariant-loop-from g l =
    l.out.items ≡ flat_map (λ one. map (connection_to (g.E.Tells.telling.name one.0)) (targets g.E.Tells.telling (ends_in l.ends) one.0)) (take l.from-index l.ends)
