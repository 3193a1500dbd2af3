use Rattle.std.proofs.Common.{◌≡◌, ◌+◌, drop, length}
use Rattle.pol_sets.specs.Blocks.{numbers_in}
use Rattle.pol_sets.proofs.blocks.count_in.Given as goal

-- those that were counted and those that are left are all
abbrev pub invariant-loop-block : goal.invariant-loop-block
invariant-loop-block l = l.count + length (numbers_in (drop l.block-index l.blocks)) ≡ length (numbers_in l.blocks)
