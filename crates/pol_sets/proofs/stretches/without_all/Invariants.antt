use Rattle.std.proofs.Common.{◌≡◌, ◌++◌, drop}
use Rattle.std.specs.List.Sorted.{IsStrictlySortedBy}
use Rattle.std.specs.Ordering.{nat_cmp}
use Rattle.pol_sets.specs.Ids.{without}
use Rattle.pol_sets.proofs.stretches.without_all.Given as goal

-- what is kept so far, and what is kept of the rest, are all that are kept
abbrev pub invariant-loop-number : goal.invariant-loop-number
invariant-loop-number l = IsStrictlySortedBy nat_cmp l.rest × (l.kept.items ++ without l.rest (drop l.number-index l.lost) ≡ without l.numbers l.lost)
