use Rattle.std.proofs.Common.{take}
use Rattle.pol_map_size.specs.Part.{ArePartsOf}
use Rattle.pol_map_size.proofs.part.rows_between.Given as goal

abbrev pub invariant-loop-row : goal.invariant-loop-row
invariant-loop-row l = ArePartsOf l.from l.end (take l.row-index l.rows) l.parts.items
