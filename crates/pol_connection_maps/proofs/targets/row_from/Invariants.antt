use Rattle.std.proofs.Common.{◌≡◌, map, take}
use Rattle.pol_connection_maps.specs.Telling.{ports_between}
use Rattle.pol_connection_maps.proofs.targets.row_from.Given as goal

abbrev pub invariant-loop-first : goal.invariant-loop-first
invariant-loop-first g l = map (λ cell. cell.items) l.row.items ≡ map (ports_between g.E.Tells.telling l.from) (map (λ first. first.now) (take l.first-index l.firsts))
