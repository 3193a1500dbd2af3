use Rattle.std.proofs.Common.{◌∷◌, length}
use Rattle.pol_phases.proofs.Returned.{Leads}
use Rattle.pol_phases.proofs.back.put_back.Given as goal

-- the lines so far are answered
abbrev pub invariant-loop-mark : goal.invariant-loop-mark
invariant-loop-mark l = Leads l.fn.marks l.fn.told.items l.waiting l.answers.items l.left.number (l.left.current.items ∷ l.left.later.items)

abbrev pub decreases-loop-mark : goal.decreases-loop-mark
decreases-loop-mark l = length l.waiting
