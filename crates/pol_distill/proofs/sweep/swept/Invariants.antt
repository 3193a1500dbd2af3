use Rattle.std.proofs.Common.{◌≡◌, ◌++◌, None, drop}
use Rattle.pol_distill.proofs.Joined.{joined}
use Rattle.pol_distill.proofs.Swept.{swept}
use Rattle.pol_distill.proofs.sweep.swept.Given as goal

-- what is kept so far and what the pass keeps of the rest are all that it keeps
abbrev pub invariant-loop-i : goal.invariant-loop-i
invariant-loop-i l = l.table.items ++ swept l.deny (joined (drop l.i l.entries)) ≡ swept None (joined l.entries)
