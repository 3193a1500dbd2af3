use Rattle.std.proofs.Common.{◌≡◌, take, drop}
use Rattle.pol_compare.specs.Parts.{parts_from, parts_of}
use Rattle.pol_compare.proofs.Cutting.{in_front}
use Rattle.pol_compare.proofs.cut.parts_of.Given as goal

-- what was passed stands before the divider
abbrev pub invariant-loop-place : goal.invariant-loop-place
invariant-loop-place l = parts_of l.text ≡ in_front (take l.place l.text) (parts_from l.begins (drop l.place l.text))
