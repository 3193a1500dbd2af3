use Rattle.std.proofs.Common.{◌≡◌, ◌++◌, take}
use Rattle.std.specs.List.{flat_map}
use Rattle.pol_sets.specs.Sets.{set_given}
use Rattle.pol_entry_changes.specs.Given.{given_by}
use Rattle.pol_entry_changes.proofs.entries.push_filters.Given as goal

abbrev pub invariant-loop-one : goal.invariant-loop-one
invariant-loop-one l = l.out.items ≡ l.initial.out.items ++ flat_map (given_by (set_given l.rows) l.dir) (take l.one-index l.filters)
