use Rattle.std.proofs.Common.{length}
use Rattle.pol_entry_tally.specs.Asking.{IsAsking}
use Rattle.pol_entry_tally.proofs.asked.push_denied.Given as goal

abbrev pub invariant-loop-turn : goal.invariant-loop-turn
invariant-loop-turn l = IsAsking l.counts l.turns l.left l.initial.asked.items l.asked.items l.done

abbrev pub decreases-loop-turn : goal.decreases-loop-turn
decreases-loop-turn l = length l.left
