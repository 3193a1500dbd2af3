use Rattle.std.proofs.Common.{length}
use Rattle.pol_entry_tally.specs.Gathering.{IsGathering}
use Rattle.pol_entry_tally.proofs.many.gather_each.Given as goal

abbrev pub invariant-loop-turn : goal.invariant-loop-turn
invariant-loop-turn l =
    IsGathering l.initial.tally l.tally l.turns l.left l.made.items l.initial.listing.changes.items l.listing.changes.items l.initial.listing.size l.listing.size

abbrev pub decreases-loop-turn : goal.decreases-loop-turn
decreases-loop-turn l = length l.left
