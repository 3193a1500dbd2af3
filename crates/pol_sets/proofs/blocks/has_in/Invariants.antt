use Rattle.std.proofs.Common.{◌≡◌, drop}
use Rattle.std.specs.List.Sorted.{IsStrictlySortedBy}
use Rattle.std.specs.Ordering.{nat_cmp}
use Rattle.pol_sets.specs.Blocks.{numbers_in}
use Rattle.pol_sets.specs.Ids.{has}
use Rattle.pol_sets.proofs.blocks.has_in.Given as goal

-- if some block has the number, one of those that are left has it
abbrev pub invariant-loop-block : goal.invariant-loop-block
invariant-loop-block l =
    IsStrictlySortedBy nat_cmp (numbers_in (drop l.block-index l.blocks))
    × (has l.id (numbers_in (drop l.block-index l.blocks)) ≡ has l.id (numbers_in l.blocks))
