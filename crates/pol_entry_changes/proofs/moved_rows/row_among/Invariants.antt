use Rattle.std.proofs.Common.{take}
use Rattle.pol_entry_changes.specs.PeerRow.{HaveNoRow}
use Rattle.pol_entry_changes.proofs.moved_rows.row_among.Given as goal

abbrev pub invariant-loop-one : goal.invariant-loop-one
invariant-loop-one l = HaveNoRow (take l.one-index l.few) l.peer
