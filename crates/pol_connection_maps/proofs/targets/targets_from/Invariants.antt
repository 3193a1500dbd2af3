use Rattle.std.proofs.Common.{◌≡◌, take}
use Rattle.std.specs.List.{flat_map}
use Rattle.pol_connection_maps.specs.Telling.{targets_at}
use Rattle.pol_connection_maps.proofs.targets.targets_from.Given as goal

abbrev pub invariant-loop-to : goal.invariant-loop-to
invariant-loop-to g l = l.out.items ≡ flat_map (λ one. targets_at g.E.Tells.telling l.from one.0) (take l.to-index l.ends)
