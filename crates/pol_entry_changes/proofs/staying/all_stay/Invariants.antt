use Rattle.std.proofs.Common.{take}
use Rattle.std.specs.List.{flat_map}
use Rattle.pol_sets.specs.Sets.{set_given}
use Rattle.pol_entry_changes.specs.Balance.{GoesOn}
use Rattle.pol_entry_changes.specs.Given.{given_by}
use Rattle.pol_entry_changes.proofs.staying.all_stay.Given as goal

abbrev pub invariant-loop-one : goal.invariant-loop-one
invariant-loop-one l =
    GoesOn (flat_map (given_by (set_given l.was) l.dir) (take l.one-index l.filters)) (flat_map (given_by (set_given l.is.rows) l.dir) (take l.one-index l.filters)) l.initial.out l.out
