use Rattle.std.proofs.Common.{◌≡◌, ◌+◌, ◌-◌, ◌≤◌, ◌++◌, drop, length}
use Rattle.pol_map_changes.specs.Merged.{merged}
use Rattle.pol_map_changes.proofs.list.merged.Given as goal

-- what is merged so far and the merged rest are all
abbrev pub invariant-loop-i : goal.invariant-loop-i
invariant-loop-i l = (l.i ≤ length l.earlier) × (l.j ≤ length l.later) × (l.both.items ++ merged (drop l.i l.earlier) (drop l.j l.later) ≡ merged l.earlier l.later)

abbrev pub decreases-loop-i : goal.decreases-loop-i
decreases-loop-i l = (length l.earlier - l.i) + (length l.later - l.j)
