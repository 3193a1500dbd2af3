use Rattle.std.proofs.Common.{◌≡◌, drop, find}
use Rattle.pol_sets.specs.Sets.{is_row_of}
use Rattle.pol_entry_changes.proofs.rows.first_row.Given as goal

-- no row in front is the peer's
abbrev pub invariant-loop-i : goal.invariant-loop-i
invariant-loop-i l = find (is_row_of l.peer) (drop l.i l.rows) ≡ find (is_row_of l.peer) l.rows
