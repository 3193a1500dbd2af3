use Rattle.std.proofs.Common.{◌≡◌, ◌++◌, map, take}
use Rattle.pol_mapkey.specs.MapKey.{port_key}
use Rattle.pol_distill.proofs.ports.push_parts.Given as goal

abbrev pub invariant-loop-part : goal.invariant-loop-part
invariant-loop-part l = l.out.items ≡ l.initial.out.items ++ map (port_key l.dir 0 l.proto) (take l.part-index l.parts)
