use Rattle.std.proofs.Common.{◌≡◌, ◌++◌, length, map}
use Rattle.pol_script.specs.Lines.{lines_of}
use Rattle.pol_script.specs.Reading.{reading_of}
use Rattle.pol_script.proofs.lines.read_script.Given as goal

-- the readings so far, and those of the rest, are all
abbrev pub invariant-loop-line : goal.invariant-loop-line
invariant-loop-line l = l.readings.items ++ map reading_of (lines_of l.rest) ≡ map reading_of (lines_of l.bytes)

abbrev pub decreases-loop-line : goal.decreases-loop-line
decreases-loop-line l = length l.rest
