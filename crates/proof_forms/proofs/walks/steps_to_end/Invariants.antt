use Rattle.std.proofs.Common.{◌+◌, ◌<◌, ◌≤◌, length}
use Rattle.proof_forms.proofs.walks.steps_to_end.Given as goal

abbrev pub invariant-loop-at : goal.invariant-loop-at
invariant-loop-at l = (l.steps + l.at ≤ l.start) × (l.at < length l.links)

abbrev pub decreases-loop-at : goal.decreases-loop-at
decreases-loop-at l = l.at
