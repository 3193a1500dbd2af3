use Rattle.std.proofs.Common.{◌≡◌, ◌++◌}
use Rattle.std.specs.VecDeque.{deque_len}
use Rattle.pol_phases.specs.Marks.{beside}
use Rattle.pol_phases.proofs.joining.beside.Given as goal

-- the lists so far, and those that are left, are all
abbrev pub invariant-loop-list : goal.invariant-loop-list
invariant-loop-list l = l.both.items ++ beside l.left.items l.others.items ≡ beside l.fn.lists.items l.fn.others.items

abbrev pub decreases-loop-list : goal.decreases-loop-list
decreases-loop-list l = deque_len l.left
