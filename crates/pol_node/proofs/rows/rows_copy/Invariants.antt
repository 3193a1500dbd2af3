use Rattle.std.proofs.Common.{◌≡◌, take}
use Rattle.pol_node.proofs.rows.rows_copy.Given as goal

-- the rows so far are copied
abbrev pub invariant-loop-row : goal.invariant-loop-row
invariant-loop-row l = l.copies.items ≡ take l.row-index l.rows
