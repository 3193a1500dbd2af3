use Rattle.std.proofs.Common.{◌<◌, take}
use Rattle.std.specs.List.{AllByRecursion}
use Rattle.pol_entry_tally.proofs.turns.count_below.Given as goal

-- those so far are below
abbrev pub invariant-loop-i : goal.invariant-loop-i
invariant-loop-i l = AllByRecursion (λ turn. turn < l.bound) (take l.i l.turns)
