use Rattle.std.proofs.Common.{◌≡◌, take}
use Rattle.pol_kept_map.proofs.entries.entries_of.Given as goal

abbrev pub invariant-loop-place : goal.invariant-loop-place
invariant-loop-place l = l.entries.items ≡ take l.place l.table
