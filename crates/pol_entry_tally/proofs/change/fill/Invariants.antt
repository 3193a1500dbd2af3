use Rattle.std.proofs.Common.{length}
use Rattle.pol_entry_tally.specs.Gathering.{IsFilling}
use Rattle.pol_entry_tally.proofs.change.fill.Given as goal

abbrev pub invariant-loop-turn : goal.invariant-loop-turn
invariant-loop-turn l = IsFilling l.initial.tally l.tally l.turns l.left

abbrev pub decreases-loop-turn : goal.decreases-loop-turn
decreases-loop-turn l = length l.left
