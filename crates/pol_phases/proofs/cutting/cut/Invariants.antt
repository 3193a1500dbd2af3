use Rattle.pol_phases.specs.Marks.{IsCut}
use Rattle.pol_phases.proofs.cutting.cut.Given as goal

-- the lines so far are cut
abbrev pub invariant-loop-reading : goal.invariant-loop-reading
invariant-loop-reading l = IsCut l.sessions l.yielded l.cutting.ended.items l.cutting.current.items l.cutting.marks
