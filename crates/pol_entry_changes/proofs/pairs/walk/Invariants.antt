use Rattle.std.proofs.Common.{◌≤◌, drop, length, take}
use Rattle.std.specs.List.{flat_map}
use Rattle.pol_sets.specs.Sets.{set_given}
use Rattle.pol_entry_changes.specs.Balance.{Between}
use Rattle.pol_entry_changes.specs.Given.{given_by}
use Rattle.pol_entry_changes.proofs.pairs.walk.Given as goal

-- the old filters gone through, and the new ones that are left
abbrev pub invariant-loop-one : goal.invariant-loop-one
invariant-loop-one l =
    (l.at ≤ length l.new)
    × Between (flat_map (given_by (set_given l.was) l.dir) (take l.one-index l.old)) (flat_map (given_by (set_given l.is.rows) l.dir) l.new)
    (flat_map (given_by (set_given l.is.rows) l.dir) (drop l.at l.new)) l.initial.out l.out
