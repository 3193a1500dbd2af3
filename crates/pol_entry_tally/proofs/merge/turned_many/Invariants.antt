use Rattle.std.proofs.Common.{length}
use Rattle.pol_entry_tally.specs.Counts.{IsMerging}
use Rattle.pol_entry_tally.proofs.merge.turned_many.Given as goal

abbrev pub invariant-loop-turn : goal.invariant-loop-turn
invariant-loop-turn l = IsMerging l.group l.old l.turns l.out.items l.rest l.left

abbrev pub decreases-loop-turn : goal.decreases-loop-turn
decreases-loop-turn l = length l.left
