use Rattle.std.proofs.Common.{◌≡◌, map, take}
use Rattle.pol_connection_maps.specs.Telling.{ends_in, targets}
use Rattle.pol_connection_maps.proofs.targets.rows_of.Given as goal

abbrev pub invariant-loop-first : goal.invariant-loop-first
invariant-loop-first g l = map (λ row. row.items) l.rows.items ≡ map (targets g.E.Tells.telling (ends_in l.ends)) (map (λ first. first.now) (take l.first-index l.firsts))
