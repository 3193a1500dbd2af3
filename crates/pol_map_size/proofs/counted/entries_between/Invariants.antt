use Rattle.std.proofs.Common.{◌≡◌, count_by, take}
use Rattle.pol_map_size.specs.Part.{is_in}
use Rattle.pol_map_size.proofs.counted.entries_between.Given as goal

abbrev pub invariant-loop-place : goal.invariant-loop-place
invariant-loop-place l = l.count ≡ count_by (is_in l.from l.end) (take l.place l.table)
