use Rattle.std.proofs.Common.{◌≡◌, ◌++◌, drop}
use Rattle.std.specs.List.Sorted.{IsStrictlySortedBy}
use Rattle.std.specs.Ordering.{nat_cmp}
use Rattle.pol_sets.specs.Ids.{union}
use Rattle.pol_sets.proofs.stretches.with_all.Given as goal

-- what there is so far, and what there will be of the rest, are all
abbrev pub invariant-loop-number : goal.invariant-loop-number
invariant-loop-number l = IsStrictlySortedBy nat_cmp l.rest × (l.both.items ++ union l.rest (drop l.number-index l.gained) ≡ union l.numbers l.gained)
