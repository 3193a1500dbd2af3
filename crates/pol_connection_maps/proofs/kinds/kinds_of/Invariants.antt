use Rattle.std.proofs.Common.{◌≡◌, map, take}
use Rattle.std.specs.List.{AllByRecursion}
use Rattle.pol_connection_maps.specs.Stays.{StateMaps}
use Rattle.pol_connection_maps.specs.Telling.{AreOfKinds, ends_in}
use Rattle.pol_connection_maps.proofs.kinds.kinds_of.Given as goal

abbrev pub invariant-loop-end : goal.invariant-loop-end
invariant-loop-end g l = record {
  ends : ends_in l.of_kinds.items ≡ take l.end-index l.ends;
  kinds :
      (maps : StateMaps) → AllByRecursion (g.E.Tells.stands maps) l.ends
      → AreOfKinds g.E.Tells.telling (map (λ first. first.now) l.firsts.items) l.of_kinds.items × AllByRecursion (g.E.Tells.stands maps) (map (λ first. first.now) l.firsts.items);
}
