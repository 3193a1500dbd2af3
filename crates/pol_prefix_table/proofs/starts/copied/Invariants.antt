use Rattle.std.proofs.Common.{◌≡◌, take}
use Rattle.pol_prefix_table.proofs.starts.copied.Given as goal

-- the starts so far
abbrev pub invariant-loop-start : goal.invariant-loop-start
invariant-loop-start g l = l.copy.items ≡ take l.start-index l.starts
