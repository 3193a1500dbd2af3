use Rattle.std.proofs.Common.{◌≡◌, drop}
use Rattle.pol_phases.specs.Blocks.{entries_in}
use Rattle.pol_phases.proofs.blocks.are_empty.Given as goal

-- the blocks so far have none
abbrev pub invariant-loop-place : goal.invariant-loop-place
invariant-loop-place g l = entries_in (drop l.place l.blocks.items) ≡ entries_in l.blocks.items
