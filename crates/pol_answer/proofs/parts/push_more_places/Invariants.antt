use Rattle.std.proofs.Common.{◌≡◌, ◌++◌, drop}
use Rattle.std.specs.String.{string_bytes}
use Rattle.pol_answer.specs.Text.{more_places}
use Rattle.pol_answer.proofs.parts.push_more_places.Given as goal

-- what was written so far, and the places that are left, are all
abbrev pub invariant-loop-place : goal.invariant-loop-place
invariant-loop-place l = string_bytes l.out ++ more_places (drop l.place-index l.places) ≡ string_bytes l.fn.out ++ more_places l.places
