use Rattle.std.proofs.Common.{◌≡◌, ◌≤◌, ◌-◌, ◌++◌, drop, length}
use Rattle.std.specs.List.{flat_map}
use Rattle.pol_sets.specs.Sets.{set_given}
use Rattle.pol_entry_changes.specs.Given.{given_by}
use Rattle.pol_entry_changes.proofs.pairs.push_newer.Given as goal

-- what is appended so far and what is left are the entries of all
abbrev pub invariant-loop-to : goal.invariant-loop-to
invariant-loop-to l =
    (l.to ≤ length l.filters)
    × (l.come.items ++ flat_map (given_by (set_given l.rows) l.dir) (drop l.to l.filters) ≡ l.initial.come.items ++ flat_map (given_by (set_given l.rows) l.dir) (drop l.from l.filters))

abbrev pub decreases-loop-to : goal.decreases-loop-to
decreases-loop-to l = length l.filters - l.to
