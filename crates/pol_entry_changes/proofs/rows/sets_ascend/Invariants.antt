use Rattle.std.proofs.Common.{take}
use Rattle.std.specs.List.{AllByRecursion}
use Rattle.pol_entry_changes.specs.PeerRow.{Ascend}
use Rattle.pol_entry_changes.proofs.rows.sets_ascend.Given as goal

abbrev pub invariant-loop-row : goal.invariant-loop-row
invariant-loop-row l = AllByRecursion Ascend (take l.row-index l.rows)
