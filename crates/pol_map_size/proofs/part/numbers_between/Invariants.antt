use Rattle.std.proofs.Common.{◌≡◌, ◌++◌, filter}
use Rattle.pol_map_size.specs.Part.{is_between}
use Rattle.pol_map_size.proofs.part.numbers_between.Given as goal

-- the numbers so far, and those of the numbers that are left, are all
abbrev pub invariant-loop-id : goal.invariant-loop-id
invariant-loop-id l = l.ids.items ++ filter (is_between l.from l.end) l.id-iterator ≡ filter (is_between l.from l.end) l.set
