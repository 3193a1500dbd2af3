use Rattle.std.proofs.Common.{◌≡◌, ◌++◌, map, take}
use Rattle.pol_connection_maps.proofs.told.push_proto.Given as goal

abbrev pub invariant-loop-range : goal.invariant-loop-range
invariant-loop-range g l = l.out.items ≡ l.initial.out.items ++ map (λ range. record { proto = l.proto; range = range }) (take l.range-index l.range-items)
