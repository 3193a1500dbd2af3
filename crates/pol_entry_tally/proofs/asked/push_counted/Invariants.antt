use Rattle.std.proofs.Common.{◌≡◌, ◌++◌, take}
use Rattle.pol_entry_tally.specs.Asking.{locals}
use Rattle.pol_entry_tally.proofs.asked.push_counted.Given as goal

abbrev pub invariant-loop-count : goal.invariant-loop-count
invariant-loop-count l = l.asked.items ≡ l.initial.asked.items ++ locals (take l.count-index l.counts)
