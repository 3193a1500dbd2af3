use Rattle.std.proofs.Common.{◌≡◌, ◌++◌, take}
use Rattle.std.specs.List.{flat_map}
use Rattle.pol_entry_changes.specs.OneId.{spec_entries}
use Rattle.pol_entry_changes.proofs.one_id.push_specs.Given as goal

abbrev pub invariant-loop-spec : goal.invariant-loop-spec
invariant-loop-spec l = l.out.items ≡ l.initial.out.items ++ flat_map (spec_entries l.dir l.kind l.id) (take l.spec-index l.specs)
