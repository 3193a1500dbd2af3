use Rattle.std.proofs.Common.{◌≡◌}
use Rattle.std.specs.VecDeque.{deque_len}
use Rattle.pol_phases.specs.Blocks.{entries_in}
use Rattle.pol_phases.proofs.blocks.next_in.Given as goal

-- nothing is taken so far
abbrev pub invariant-loop-blocks : goal.invariant-loop-blocks
invariant-loop-blocks g l = entries_in l.blocks.items ≡ entries_in l.fn.blocks.items

abbrev pub decreases-loop-blocks : goal.decreases-loop-blocks
decreases-loop-blocks g l = deque_len l.blocks
