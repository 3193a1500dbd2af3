use Rattle.std.proofs.Common.{◌≡◌, map, take}
use Rattle.serde_json.specs.View.{view}
use Rattle.pol_json.proofs.part.build_each.Given as goal

-- the parts so far are those of the front of the list
abbrev pub invariant-loop-value : goal.invariant-loop-value
invariant-loop-value g l = l.parts.items ≡ map g.T.Part.gives (map view (take l.value-index l.values))
