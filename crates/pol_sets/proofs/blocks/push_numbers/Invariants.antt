use Rattle.std.proofs.Common.{◌≡◌, ◌++◌, length}
use Rattle.pol_sets.specs.Blocks.{numbers_in}
use Rattle.pol_sets.proofs.blocks.push_numbers.Given as goal

-- what stands there and what is left are all
abbrev pub invariant-loop-rest : goal.invariant-loop-rest
invariant-loop-rest l = numbers_in l.blocks.items ++ l.rest ≡ numbers_in l.initial.blocks.items ++ l.numbers

abbrev pub decreases-loop-rest : goal.decreases-loop-rest
decreases-loop-rest l = length l.rest
