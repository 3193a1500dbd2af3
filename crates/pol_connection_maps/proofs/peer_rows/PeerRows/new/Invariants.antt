use Rattle.std.proofs.Common.{drop}
use Rattle.pol_connection_maps.specs.PeerRows.{IsTableOf}
use Rattle.pol_connection_maps.proofs.peer_rows.PeerRows.new.Given as goal

-- the table of the rows gone through, from the last one on
abbrev pub invariant-loop-i : goal.invariant-loop-i
invariant-loop-i l = IsTableOf l.table (drop l.i l.rows)
