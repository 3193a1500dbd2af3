use Rattle.std.proofs.Common.{◌≡◌, ◌++◌}
use Rattle.std.specs.VecDeque.{deque_len}
use Rattle.pol_phases.proofs.joining.push_all.Given as goal

-- the phases so far, and those that are left, are all
abbrev pub invariant-loop-phase : goal.invariant-loop-phase
invariant-loop-phase l = l.phases.items ++ l.left.items ≡ l.fn.phases.items ++ l.fn.more.items

abbrev pub decreases-loop-phase : goal.decreases-loop-phase
decreases-loop-phase l = deque_len l.left
