use Rattle.std.proofs.Common.{drop}
use Rattle.pol_entry_changes.specs.PeerRow.{IsIndexOf}
use Rattle.pol_entry_changes.proofs.rows.table_of.Given as goal

-- the table of the rows gone through, from the last one on
abbrev pub invariant-loop-i : goal.invariant-loop-i
invariant-loop-i l = IsIndexOf l.table (drop l.i l.rows)
