use Rattle.std.proofs.Common.{take}
use Rattle.pol_taken.specs.Known.{HaveSelectors}
use Rattle.pol_taken.proofs.known_peers.are_live.Given as goal

-- the selectors of the first rows are live
abbrev pub invariant-loop-row : goal.invariant-loop-row
invariant-loop-row l = HaveSelectors l.cache (take l.row-index l.rows)
