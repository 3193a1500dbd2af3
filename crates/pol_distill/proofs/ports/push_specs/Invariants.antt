use Rattle.std.proofs.Common.{◌≡◌, ◌++◌, take}
use Rattle.std.specs.List.{flat_map}
use Rattle.pol_model.specs.PolicyMap.{spec_keys}
use Rattle.pol_distill.proofs.ports.push_specs.Given as goal

abbrev pub invariant-loop-spec : goal.invariant-loop-spec
invariant-loop-spec l = l.out.items ≡ l.initial.out.items ++ flat_map (spec_keys l.dir 0) (take l.spec-index l.specs)
