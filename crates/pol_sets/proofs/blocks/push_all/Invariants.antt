use Rattle.std.proofs.Common.{◌≡◌, ◌++◌, drop}
use Rattle.pol_sets.specs.Blocks.{numbers_in}
use Rattle.pol_sets.proofs.blocks.push_all.Given as goal

-- what stands there and what is left are all
abbrev pub invariant-loop-block : goal.invariant-loop-block
invariant-loop-block l = l.numbers.items ++ numbers_in (drop l.block-index l.blocks) ≡ l.initial.numbers.items ++ numbers_in l.blocks
