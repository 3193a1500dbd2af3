use Rattle.std.proofs.Common.{drop}
use Rattle.pol_distill.specs.Indexed.{IsIndexOf}
use Rattle.pol_distill.proofs.index.PeerSets.new.Given as goal

-- the table of the rows gone through, from the last one on
abbrev pub invariant-loop-i : goal.invariant-loop-i
invariant-loop-i l = IsIndexOf l.table (drop l.i l.rows)
