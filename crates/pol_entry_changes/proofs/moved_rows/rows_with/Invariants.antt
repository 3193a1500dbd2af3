use Rattle.std.proofs.Common.{take}
use Rattle.std.specs.List.{AllByRecursion}
use Rattle.pol_entry_changes.specs.PeerRow.{IsFirstRow}
use Rattle.pol_entry_changes.proofs.Moving.{IsCovered}
use Rattle.pol_entry_changes.proofs.moved_rows.rows_with.Given as goal

abbrev pub invariant-loop-row : goal.invariant-loop-row
invariant-loop-row l = AllByRecursion (IsFirstRow l.rows) l.found.items × AllByRecursion (IsCovered l.selectors l.found.items) (take l.row-index l.rows)
