use Rattle.std.proofs.Common.{take}
use Rattle.std.specs.List.{AllByRecursion}
use Rattle.pol_entry_changes.specs.PeerRow.{IsStill}
use Rattle.pol_entry_changes.proofs.moves.all_still.Given as goal

abbrev pub invariant-loop-one : goal.invariant-loop-one
invariant-loop-one l = AllByRecursion IsStill (take l.one-index l.moves)
