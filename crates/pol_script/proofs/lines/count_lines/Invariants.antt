use Rattle.std.proofs.Common.{◌≡◌, ◌+◌, ◌≤◌, length}
use Rattle.pol_script.specs.Lines.{lines_of}
use Rattle.pol_script.proofs.lines.count_lines.Given as goal

-- the lines so far, and those of the rest, are all
abbrev pub invariant-loop-behind : goal.invariant-loop-behind
invariant-loop-behind l = record {
  counted : l.count + length (lines_of l.rest) ≡ length (lines_of l.bytes);
  fits : l.count + length l.rest ≤ length l.bytes;
}

abbrev pub decreases-loop-behind : goal.decreases-loop-behind
decreases-loop-behind l = length l.rest
