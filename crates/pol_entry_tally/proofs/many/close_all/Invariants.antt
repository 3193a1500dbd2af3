use Rattle.pol_entry_tally.specs.Counted.{SameCounts}
use Rattle.pol_entry_tally.proofs.many.close_all.Given as goal

abbrev pub invariant-loop-turn : goal.invariant-loop-turn
invariant-loop-turn l = SameCounts l.initial.tally l.tally
