use Rattle.std.proofs.Common.{◌≡◌, ◌++◌, take}
use Rattle.pol_entry_tally.specs.Asking.{turned_locals}
use Rattle.pol_entry_tally.proofs.asked.push_turned.Given as goal

abbrev pub invariant-loop-turn : goal.invariant-loop-turn
invariant-loop-turn l = l.asked.items ≡ l.initial.asked.items ++ turned_locals (take l.turn-index l.turns)
