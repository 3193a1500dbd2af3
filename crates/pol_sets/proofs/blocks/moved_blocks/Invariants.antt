use Rattle.std.proofs.Common.{drop}
use Rattle.pol_sets.specs.Blocks.{numbers_in}
use Rattle.pol_sets.specs.Ids.{union, without}
use Rattle.pol_sets.proofs.Parted.{IsParted}
use Rattle.pol_sets.proofs.blocks.moved_blocks.Given as goal

-- what stands there, and what the blocks that are left become, are all
abbrev pub invariant-loop-block : goal.invariant-loop-block
invariant-loop-block l = IsParted (numbers_in (drop l.block-index l.blocks)) l.left_gained l.left_lost (numbers_in l.moved.items) (union (without (numbers_in l.blocks) l.lost) l.gained)
