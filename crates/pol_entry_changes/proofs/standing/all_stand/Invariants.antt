use Rattle.std.proofs.Common.{◌≡◌, take}
use Rattle.pol_entry_changes.specs.Told.{NamesOne}
use Rattle.pol_entry_changes.proofs.standing.all_stand.Given as goal

abbrev pub invariant-loop-i : goal.invariant-loop-i
invariant-loop-i l = NamesOne l.old l.new → take l.i l.old ≡ take l.i l.new
